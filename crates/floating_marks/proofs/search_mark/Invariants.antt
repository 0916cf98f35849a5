-- `search_mark` meets its contract: each turn passes a letter that begins with EF, and the search those that do not. Assumes nothing.
use Prim.Native.Nat.{◌-◌}
use lib.ListN.{length}
use Rattle.floating_marks.proofs.Finding.{Inv}
use Rattle.floating_marks.proofs.search_mark.Given as goal

abbrev pub invariant-loop-place : goal.invariant-loop-place
invariant-loop-place l = Inv l.word l.place

abbrev pub decreases-loop-place : goal.decreases-loop-place
decreases-loop-place l = length l.word - l.place
