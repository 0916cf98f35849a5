-- `normalize::normalize_text` meets its contract: each turn copies a plain letter, or reads another and writes what stands for it. Assumes nothing.
use Prim.Native.Nat.{◌-◌}
use lib.ListN.{length}
use Rattle.arabic.proofs.Normalising.{Inv}
use Rattle.arabic.proofs.normalize.normalize_text.Given as goal

abbrev pub invariant-loop-cursor : goal.invariant-loop-cursor
invariant-loop-cursor l = Inv l.text l.places l.cursor l.out l.out_places l.end

abbrev pub decreases-loop-cursor : goal.decreases-loop-cursor
decreases-loop-cursor l = length l.text - l.cursor
