-- `well_formed` meets its contract: the word is well formed just where what is left of it is, from the state kept. Assumes nothing.
use Rattle.utf8.proofs.Read.{Reads}
use Rattle.utf8.proofs.well_formed.Given as goal

abbrev pub invariant-loop-byte : goal.invariant-loop-byte
invariant-loop-byte l = Reads l.word l.reading l.byte-index
