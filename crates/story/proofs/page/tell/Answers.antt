-- `tell` meets its contract: it writes the parts of a line. Assumes nothing.
use mathlib.Core.Path.{◌≡◌, ap, subst}
use mathlib.Core.List.{List, [], ◌∷◌, ◌++◌}
use Prim.Native.Nat.{ℕ, ◌+◌}
use native.Mathlib.Omega.{arith}
use lib.ListN.{length}
use Rattle.std.specs.Prelude.{decimal}
use Rattle.history.specs.Steps.{name, row_of}
use Rattle.history.specs.Text.{space, lf, spelt}
use Rattle.story.specs.Telling.{Adds}
use Rattle.story.proofs.Spelling.{adds_both}
use Rattle.story.proofs.Lines.{row_low, left_small, line_room, left_is, line_told}
use Rattle.story.proofs.page.tell.Goals as goal

pub put-requires : goal.put-requires
put-requires c = let r = c.requires in omega (arith, line_room c.args.page.now r.0 r.1.1, ap length r.1.0.named)

pub put-requires-2 : goal.put-requires-2
put-requires-2 c = let r = c.requires in omega (arith, line_room c.args.page.now r.0 r.1.1, ap length r.1.0.named, c.put.ensures.len)

pub put_letters-requires : goal.put_letters-requires
put_letters-requires c =
    let r = c.requires in
    (row_of r.0, (r.1.0.row, (row_low c.args.page.now r.0 r.1.1, omega (arith, line_room c.args.page.now r.0 r.1.1, ap length r.1.0.named, c.put.ensures.len, c.put-2.ensures.len))))

pub put-requires-3 : goal.put-requires-3
put-requires-3 c =
    let r = c.requires in
    omega (arith, line_room c.args.page.now r.0 r.1.1, ap length r.1.0.named, c.put.ensures.len, c.put-2.ensures.len, (c.put_letters.ensures (row_of r.0) r.1.0.row).len)

pub overflow_add-left : goal.overflow_add-left
overflow_add-left c =
    let r = c.requires in
    let s = c.put_letters.ensures (row_of r.0) r.1.0.row in
    let e : c.put-3.new.page.letters ≡ c.args.page.now.letters = omega (arith, c.put.ensures.letters, c.put-2.ensures.letters, s.letters, c.put-3.ensures.letters) in
    omega (arith, left_small c.args.page.now r.0 r.1.1, left_is c.args.page.now c.put-3.new.page r.0 c.args.step_name.now c.args.row.now c.args.puts r.1.0 e c.count_chars.result c.saturating_sub.result c.count_chars.ensures.by_letters c.saturating_sub.ensures)

pub put_number-requires : goal.put_number-requires
put_number-requires c =
    let r = c.requires in
    let s = c.put_letters.ensures (row_of r.0) r.1.0.row in
    let e : c.put-3.new.page.letters ≡ c.args.page.now.letters = omega (arith, c.put.ensures.letters, c.put-2.ensures.letters, s.letters, c.put-3.ensures.letters) in
    let n = left_is c.args.page.now c.put-3.new.page r.0 c.args.step_name.now c.args.row.now c.args.puts r.1.0 e c.count_chars.result c.saturating_sub.result c.count_chars.ensures.by_letters c.saturating_sub.ensures in
    omega (arith, line_room c.args.page.now r.0 r.1.1, ap length r.1.0.named, c.put.ensures.len, c.put-2.ensures.len, s.len, c.put-3.ensures.len, ap (λ (k : ℕ). length (decimal k)) n)

pub put-requires-4 : goal.put-requires-4
put-requires-4 c =
    let r = c.requires in
    let s = c.put_letters.ensures (row_of r.0) r.1.0.row in
    let e : c.put-3.new.page.letters ≡ c.args.page.now.letters = omega (arith, c.put.ensures.letters, c.put-2.ensures.letters, s.letters, c.put-3.ensures.letters) in
    let n = left_is c.args.page.now c.put-3.new.page r.0 c.args.step_name.now c.args.row.now c.args.puts r.1.0 e c.count_chars.result c.saturating_sub.result c.count_chars.ensures.by_letters c.saturating_sub.ensures in
    omega (arith, line_room c.args.page.now r.0 r.1.1, ap length r.1.0.named, c.put.ensures.len, c.put-2.ensures.len, s.len, c.put-3.ensures.len, c.put_number.ensures.len, ap (λ (k : ℕ). length (decimal k)) n)

pub returns : goal.returns
returns c = λ d i.
    let p = c.args.page.now in
    let s = c.put_letters.ensures (row_of d) i.row in
    let q = c.put-3.new.page in
    let e : q.letters ≡ p.letters = omega (arith, c.put.ensures.letters, c.put-2.ensures.letters, s.letters, c.put-3.ensures.letters) in
    let n = left_is p q d c.args.step_name.now c.args.row.now c.args.puts i e c.count_chars.result c.saturating_sub.result c.count_chars.ensures.by_letters c.saturating_sub.ensures in
    let f = adds_both (name d.step ++ (space ∷ []) ++ spelt (row_of d)) (space ∷ [])
    (adds_both (name d.step ++ (space ∷ [])) (spelt (row_of d)) (adds_both (name d.step) (space ∷ []) (subst (λ (t : List ℕ). Adds p t c.put.new.page) i.named c.put.ensures) c.put-2.ensures) s)
    c.put-3.ensures in
    line_told p q c.put-4.new.page d f
    (subst (λ (k : ℕ). Adds (record { letters = k; len = q.len; text = q.text }) (decimal k ++ (lf ∷ [])) c.put-4.new.page) n
    (adds_both (decimal (c.saturating_sub.result + c.args.puts)) (lf ∷ []) c.put_number.ensures c.put-4.ensures))
