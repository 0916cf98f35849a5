-- `normalize::finish_text` meets its contract: each turn changes one letter in place, and the turns are enough for all. Assumes nothing.
use Prim.Native.Nat.{◌-◌}
use Rattle.arabic.proofs.Finishing.{Inv}
use Rattle.arabic.proofs.normalize.finish_text.Given as goal

abbrev pub invariant-loop : goal.invariant-loop
invariant-loop l = Inv l.initial.text l.i_word_len l.text l.cursor l.counter

abbrev pub decreases-loop : goal.decreases-loop
decreases-loop l = l.i_word_len - l.counter
