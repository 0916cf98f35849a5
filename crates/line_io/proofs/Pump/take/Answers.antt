-- `Pump::take` takes all bytes of a chunk, piece by piece.
use Rattle.std.proofs.Common.{rules, arith}
use Rattle.std.proofs.lemmas.Grind.{common_steps}
use Rattle.lines.specs.Machine.{after}
use Rattle.lines.proofs.Runs.{after_rest}
use Rattle.lines.proofs.Calling.{rest_shorter}
use Rattle.line_io.proofs.Pump.take.Goals as goal

pub loop-rest-preserved : goal.loop-rest-preserved
loop-rest-preserved g c = rw (c.feed-fed.ensures.state, after_rest) c.loop-rest.invariant

pub loop-rest-smaller : goal.loop-rest-smaller
loop-rest-smaller g c = rest_shorter g.A.Answer.answer g.A.Answer.ROOM c.feed-fed.ensures (search rules) (grind (arith, common_steps, c.loop-rest-test.true))

pub returns : goal.returns
unfolding after
returns g c = grind (arith, common_steps, c.loop-rest.invariant)
