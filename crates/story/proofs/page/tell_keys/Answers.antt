-- `tell_keys` meets its contract: each turn passes a letter. Assumes nothing.
use mathlib.Core.Path.{◌∙◌, sym}
use native.Mathlib.Omega.{arith}
use Rattle.utf8.proofs.Ahead.{letter, moves}
use Rattle.story.proofs.Keys.{start, done, passed, is_deed, fits_deed, told}
use Rattle.story.proofs.page.tell_keys.Goals as goal

pub loop-cursor-init : goal.loop-cursor-init
loop-cursor-init g c = λ s w k. start k

pub read_letter-letter-requires : goal.read_letter-letter-requires
read_letter-letter-requires g c = let r = c.requires.keys in letter (c.loop-cursor.invariant r.0 r.1.0 r.1.1).to (omega arith)

pub overflow_add-next : goal.overflow_add-next
overflow_add-next g c =
    let r = c.requires.keys in
    let l = c.read_letter-letter in
    omega (arith, moves (c.loop-cursor.invariant r.0 r.1.0 r.1.1).to (omega arith) l.result l.ensures)

pub slice_bounds-tell-end : goal.slice_bounds-tell-end
slice_bounds-tell-end g c =
    let r = c.requires.keys in
    let l = c.read_letter-letter in
    omega (arith, moves (c.loop-cursor.invariant r.0 r.1.0 r.1.1).to (omega arith) l.result l.ensures)

pub tell-requires : goal.tell-requires
tell-requires g c =
    let r = c.requires.keys in
    let l = c.read_letter-letter in
    let v = c.loop-cursor.invariant r.0 r.1.0 r.1.1 in
    let e = sym c.in-Some.is ∙ r.1.1.puts l.result.code c.puts.result c.puts.ensures in
    (_, (is_deed r.1.1 v (omega arith) l.result l.ensures c.in-Some.count e, fits_deed r.1.1 v (omega arith) l.result l.ensures c.in-Some.count e))

pub loop-cursor-smaller-in-Some : goal.loop-cursor-smaller-in-Some
loop-cursor-smaller-in-Some g c =
    let r = c.requires.keys in
    let l = c.read_letter-letter in
    omega (arith, moves (c.loop-cursor.invariant r.0 r.1.0 r.1.1).to (omega arith) l.result l.ensures)

pub loop-cursor-preserved-in-Some : goal.loop-cursor-preserved-in-Some
loop-cursor-preserved-in-Some g c = λ s w k.
    let l = c.read_letter-letter in
    let v = c.loop-cursor.invariant s w k in
    let e = sym c.in-Some.is ∙ k.puts l.result.code c.puts.result c.puts.ensures in
    told k v (omega arith) l.result l.ensures c.in-Some.count e c.tell.new.page (c.tell.ensures _ (is_deed k v (omega arith) l.result l.ensures c.in-Some.count e))

pub loop-cursor-smaller : goal.loop-cursor-smaller
loop-cursor-smaller g c =
    let r = c.requires.keys in
    let l = c.read_letter-letter in
    omega (arith, moves (c.loop-cursor.invariant r.0 r.1.0 r.1.1).to (omega arith) l.result l.ensures)

pub loop-cursor-preserved : goal.loop-cursor-preserved
loop-cursor-preserved g c = λ s w k.
    let l = c.read_letter-letter in
    let v = c.loop-cursor.invariant s w k in
    passed k v (omega arith) l.result l.ensures (sym c.in_default.is ∙ k.puts l.result.code c.puts.result c.puts.ensures)

pub returns : goal.returns
returns g c = λ s w k. done k (c.loop-cursor.invariant s w k) c.loop-cursor-test.false
