-- `post_puts` meets its contract: the letters from 0622 to 0626 are the keys of both halves. Assumes nothing.
use native.Mathlib.Omega.{arith}
use Rattle.story.proofs.Puts.{last_half, other_half, post_some, post_none}
use Rattle.story.proofs.letters.post_puts.Goals as goal

pub returns-in-1570-to-1574-clause-last : goal.returns-in-1570-to-1574-clause-last
returns-in-1570-to-1574-clause-last c = post_some last_half c.args.letter (omega (arith, c.in-1570-to-1574)) (omega (arith, c.in-1570-to-1574))

pub returns-in-1570-to-1574-clause-other : goal.returns-in-1570-to-1574-clause-other
returns-in-1570-to-1574-clause-other c = post_some other_half c.args.letter (omega (arith, c.in-1570-to-1574)) (omega (arith, c.in-1570-to-1574))

pub returns-in_default-clause-last : goal.returns-in_default-clause-last
returns-in_default-clause-last c = post_none last_half c.args.letter (λ a b. omega (arith, a, b, c.in_default))

pub returns-in_default-clause-other : goal.returns-in_default-clause-other
returns-in_default-clause-other c = post_none other_half c.args.letter (λ a b. omega (arith, a, b, c.in_default))

pub returns-in_default-2-clause-last : goal.returns-in_default-2-clause-last
returns-in_default-2-clause-last c = post_none last_half c.args.letter (λ a b. omega (arith, a, b, c.in_default))

pub returns-in_default-2-clause-other : goal.returns-in_default-2-clause-other
returns-in_default-2-clause-other c = post_none other_half c.args.letter (λ a b. omega (arith, a, b, c.in_default))
