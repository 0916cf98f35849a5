-- `search_mark` meets its contract: each turn passes a letter that begins with EF, and the search those that do not. Assumes nothing.
use native.Mathlib.Omega.{arith}
use Rattle.floating_marks.proofs.Finding.{start, letter, inside, there, turn, none}
use Rattle.floating_marks.proofs.search_mark.Goals as goal

pub loop-place-init : goal.loop-place-init
loop-place-init c = start c.args.word.now c.requires c.next_first-place.result c.next_first-place.ensures

pub mark_at-requires : goal.mark_at-requires
mark_at-requires c = record { letter = letter c.loop-place.invariant (omega arith); first = c.loop-place.invariant.first (omega arith) }

pub returns-then-mark_at : goal.returns-then-mark_at
returns-then-mark_at c = there c.loop-place.invariant (omega arith) c.mark_at.result c.mark_at.ensures c.if-mark_at.true

pub next_first-place-requires-in-loop-place : goal.next_first-place-requires-in-loop-place
next_first-place-requires-in-loop-place c = omega (arith, inside c.loop-place.invariant (omega arith))

pub loop-place-preserved : goal.loop-place-preserved
loop-place-preserved c =
    let next = c.next_first-place-in-loop-place in
    turn c.loop-place.invariant (omega arith) c.mark_at.result c.mark_at.ensures c.if-mark_at.false next.result next.ensures

pub returns : goal.returns
returns c = none c.loop-place.invariant c.loop-place-test.false
