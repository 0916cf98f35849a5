-- `tell_changes` meets its contract: each turn writes the line of one change. Assumes nothing.
use native.Mathlib.Omega.{arith}
use Rattle.story.proofs.NotedRows.{start, told_next, turn, done}
use Rattle.story.proofs.changes.tell_changes.Goals as goal

pub loop-change-init : goal.loop-change-init
loop-change-init c = λ ds k f. start f k

pub tell_change-requires : goal.tell_change-requires
tell_change-requires c = let r = c.requires in told_next r.1.1 (c.loop-change.invariant r.0 r.1.0 r.1.1) c.loop-change-test.true

pub loop-change-preserved : goal.loop-change-preserved
loop-change-preserved c = λ ds k f.
    let v = c.loop-change.invariant ds k f in
    let n = told_next f v c.loop-change-test.true in
    turn f v c.loop-change-test.true c.tell_change.new.page (c.tell_change.ensures n.0 n.1.0 n.1.1)

pub returns : goal.returns
returns c = λ ds k f. done f (c.loop-change.invariant ds k f) (omega (arith, c.loop-change-test.false))
