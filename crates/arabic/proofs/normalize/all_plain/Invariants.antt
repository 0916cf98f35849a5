-- `normalize::all_plain` meets its contract: each turn passes a plain letter. Assumes nothing.
use Prim.Native.Nat.{◌-◌}
use lib.ListN.{length}
use Rattle.arabic.proofs.Passing.{Inv}
use Rattle.arabic.proofs.normalize.all_plain.Given as goal

abbrev pub invariant-loop-cursor : goal.invariant-loop-cursor
invariant-loop-cursor l = Inv l.text l.cursor

abbrev pub decreases-loop-cursor : goal.decreases-loop-cursor
decreases-loop-cursor l = length l.text - l.cursor
