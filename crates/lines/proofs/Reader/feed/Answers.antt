-- `Reader::feed` meets its contract: from turn to turn the reader and the output are those of the bytes passed. Assumes nothing.
use mathlib.Core.Path.{◌≡◌}
use native.Mathlib.Omega.{arith}
use lib.ListN.{length}
use Rattle.lines.proofs.Feeding.{begun, next, input_ends, room_ends}
use Rattle.lines.proofs.Reader.feed.Goals as goal

pub loop-used-init : goal.loop-used-init
loop-used-init g c = begun g.A.Answer.answer g.A.Answer.ROOM c.args.input.now c.args.self.now c.args.out.now

pub loop-used-preserved : goal.loop-used-preserved
loop-used-preserved g c = next g.A.Answer.answer g.A.Answer.ROOM c.loop-used.invariant (omega arith) (omega arith) c.take_byte-count.auto.out c.take_byte-count.ensures

pub returns-then-out-count : goal.returns-then-out-count
returns-then-out-count g c = room_ends g.A.Answer.answer g.A.Answer.ROOM c.loop-used.invariant (omega arith)

pub returns : goal.returns
returns g c = let e : c.loop-used.used ≡ length c.args.input.now = omega arith in rw e at (input_ends g.A.Answer.answer g.A.Answer.ROOM c.loop-used.invariant (omega arith))
