-- `put_letters` meets its contract: each turn writes one letter. Assumes nothing.
use Prim.Native.Nat.{◌-◌}
use lib.ListN.{length}
use Rattle.story.proofs.Spelling.{Inv}
use Rattle.story.proofs.page.put_letters.Given as goal

abbrev pub invariant-loop-cursor : goal.invariant-loop-cursor
invariant-loop-cursor l = Inv l.row l.initial.page l.cursor l.page

abbrev pub decreases-loop-cursor : goal.decreases-loop-cursor
decreases-loop-cursor l = length l.row - l.cursor
