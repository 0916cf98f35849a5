-- `put_numbers` meets its contract: each turn writes the place of one letter. Assumes nothing.
use Prim.Native.Nat.{◌-◌}
use lib.ListN.{length}
use Rattle.stemmer.proofs.Numbering.{Inv}
use Rattle.stemmer.proofs.numbers.put_numbers.Given as goal

abbrev pub invariant-loop-cursor : goal.invariant-loop-cursor
invariant-loop-cursor l = Inv l.text l.beside l.initial.numbers l.cursor l.numbers l.count

abbrev pub decreases-loop-cursor : goal.decreases-loop-cursor
decreases-loop-cursor l = length l.text - l.cursor
