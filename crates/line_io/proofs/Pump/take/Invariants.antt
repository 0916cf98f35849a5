-- The rest of the chunk leaves the reader as the whole chunk does.
use Rattle.std.proofs.Common.{◌≡◌, length}
use Rattle.lines.specs.Machine.{after}
use Rattle.line_io.proofs.Pump.take.Given as goal

abbrev pub invariant-loop-rest : goal.invariant-loop-rest
invariant-loop-rest g l = after l.self.reader l.rest ≡ after l.fn.self.reader l.fn.chunk

abbrev pub decreases-loop-rest : goal.decreases-loop-rest
decreases-loop-rest g l = length l.rest
