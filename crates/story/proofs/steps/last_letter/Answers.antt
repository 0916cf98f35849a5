-- `last_letter` meets its contract. Assumes nothing.
use native.Mathlib.Omega.{arith}
use Rattle.story.proofs.Halves.{halves, no_letter, starts_first, last_at}
use Rattle.story.proofs.steps.last_letter.Goals as goal

pub returns-then-len-eq0-clause-parts : goal.returns-then-len-eq0-clause-parts
returns-then-len-eq0-clause-parts c = λ w e. halves c.args.text.now w 0 e (no_letter c.args.text.now w e c.if-len-eq0.true)

pub last_start-requires : goal.last_start-requires
last_start-requires c = let s = c.requires in (omega arith, omega (arith, c.if-len-eq0.false), starts_first c.args.text.now s.word s.encodes (omega (arith, c.if-len-eq0.false)))

pub returns-clause-parts : goal.returns-clause-parts
returns-clause-parts c = λ w e. halves c.args.text.now w c.last_start.result e (last_at c.args.text.now w e (omega (arith, c.if-len-eq0.false)) c.last_start.result c.last_start.ensures)
