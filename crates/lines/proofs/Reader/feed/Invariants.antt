-- From turn to turn the reader and the output are those of the bytes passed.
use Rattle.lines.proofs.Feeding.{Passed}
use Rattle.lines.proofs.Reader.feed.Given as goal

abbrev pub invariant-loop-used : goal.invariant-loop-used
invariant-loop-used g l = Passed g.A.Answer.answer g.A.Answer.ROOM l.input l.initial.self l.self l.initial.out l.out l.count l.used
