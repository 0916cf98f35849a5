-- `take_out` meets its contract: each turn reads a letter, and writes it if it is no mark. Assumes nothing.
use Prim.Native.Nat.{◌-◌}
use lib.ListN.{length}
use Rattle.floating_marks.proofs.Taking.{Inv}
use Rattle.floating_marks.proofs.take_out.Given as goal

abbrev pub invariant-loop-cursor : goal.invariant-loop-cursor
invariant-loop-cursor l = Inv l.word (length l.initial.out) (length l.initial.places) l.cursor l.out l.end l.places

abbrev pub decreases-loop-cursor : goal.decreases-loop-cursor
decreases-loop-cursor l = length l.word - l.cursor
