-- `put` meets its contract: each turn writes one byte. Assumes nothing.
use lib.ListN.{take}
use Rattle.story.specs.Telling.{Adds}
use Rattle.story.proofs.page.put.Given as goal

abbrev pub invariant-loop-byte : goal.invariant-loop-byte
invariant-loop-byte l = Adds l.initial.page (take l.byte-index l.bytes) l.page
