-- `prefix_halves::replace_front` meets its contract. Assumes nothing.
use mathlib.Core.Path.{◌≡◌, refl, sym, ◌∙◌}
use mathlib.Core.List.{List, []}
use Prim.Native.Nat.{ℕ, ◌-◌}
use borrow.Author.Rules.{rules}
use lib.ListN.{length, get_or}
use Rattle.std.specs.Borrow.{Bor}
use native.Mathlib.Omega.{arith}
use Rattle.snowball.specs.Stands.{most_changes}
use Rattle.arabic.proofs.Fronted.{put_is, row_is, not_replaced, can_note, some_class, in_puts, can_slice, is_replaced}
use Rattle.arabic.proofs.prefix_halves.replace_front.Goals as goal

pub returns-in_default : goal.returns-in_default
returns-in_default c =
    let a = c.args in
    λ s ps w st tk pe first nb ch. (not_replaced s ps w a.env st (sym c.in_default.is ∙ tk.taken) nb, row_is s ps w a.env st a.found tk nb)

pub overflow_sub-taken : goal.overflow_sub-taken
overflow_sub-taken c =
    let p = c.requires in
    some_class p.0 p.1.1.0.0 p.1.0 c.args.env p.1.1.0.1 c.args.found p.1.1.1.0 c.in-Some.taken c.in-Some.is

pub bounds-puts-from : goal.bounds-puts-from
bounds-puts-from c =
    let p = c.requires in
    omega (arith, in_puts p.0 p.1.1.0.0 p.1.0 c.args.env p.1.1.0.1 c.args.found p.1.1.1.0 c.in-Some.taken c.in-Some.is c.args.puts.now p.1.1.1.1, c.from.ensures)

pub note-requires : goal.note-requires
note-requires c =
    let p = c.requires in
    can_note p.0 p.1.1.0.0 p.1.0 c.args.env p.1.1.0.1 c.args.found p.1.1.1.0 c.in-Some.taken c.in-Some.is c.args.step p.1.1.1.2

pub slice_from-requires : goal.slice_from-requires
slice_from-requires c =
    let p = c.requires in
    let none : Bor (List ℕ) = record { ref_ptr = (0, 0); now = [] } in
    let h = can_slice p.0 p.1.1.0.0 p.1.0 c.args.env p.1.1.0.1 c.args.found p.1.1.1.0 c.in-Some.taken c.in-Some.is c.args.puts.now p.1.1.1.1 (get_or c.args.puts.now c.from.result none).now
    (put_is c.args.puts.now c.from.result (c.in-Some.taken.class - 1) none refl c.from.ensures) _ c.note.new.env c.note.ensures in
    (h.0, h.1.0, h.1.1)

pub returns : goal.returns
returns c =
    let a = c.args in
    let n : length a.env.changes ≡ most_changes = search rules in
    λ s ps w st tk pe first nb ch. (
      is_replaced s ps w a.env st a.found tk c.in-Some.taken c.in-Some.is a.puts.now pe _ (put_is a.puts.now c.from.result (c.in-Some.taken.class - 1) _ refl c.from.ensures) nb ch c.slice_from.result
          a.step first n c.note.new.env c.note.ensures c.slice_from.ensures.1 c.slice_from.ensures.0.made c.slice_from.ensures.0.changes,
      row_is s ps w a.env st a.found tk nb,
    )
