-- `plain_at` meets its contract: the letter has two bytes where the first is D8 or D9, and is plain where the second is in its range. Assumes nothing.
use native.Mathlib.Omega.{arith}
use Rattle.utf8.proofs.ReadLetter.{room_1}
use Rattle.plain_letters.proofs.Ranges.{first_D8, first_D9, first-other}
use borrow.Author.Rules.{rules}
use Rattle.plain_letters.proofs.plain_at.Goals as goal

pub bounds-text-cursor : goal.bounds-text-cursor
bounds-text-cursor c = omega (arith, room_1 c.args.text.now c.args.cursor c.requires)

pub returns-in-216 : goal.returns-in-216
returns-in-216 c = λ x t l. first_D8 c.args.text.now c.args.cursor x t l c.in-216.is c.contains.result (search rules)

pub returns-in-217 : goal.returns-in-217
returns-in-217 c = λ x t l. first_D9 c.args.text.now c.args.cursor x t l c.in-217.is c.contains-in-217.result (search rules)

pub returns-in_default : goal.returns-in_default
returns-in_default c = λ x t l. first-other c.args.text.now c.args.cursor x t l (search rules) (search rules)
