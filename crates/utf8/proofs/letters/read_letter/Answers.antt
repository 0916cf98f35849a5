-- `letters::read_letter` meets its contract: the letter is read off its bytes, whose number the first one tells. Assumes nothing.
use native.Mathlib.Omega.{arith}
use Rattle.utf8.proofs.ReadLetter.{room_1, reads_1, reads_2, reads_3, reads_4}
use Rattle.utf8.proofs.letters.read_letter.Goals as goal

pub bounds-text-cursor : goal.bounds-text-cursor
bounds-text-cursor c = omega (arith, room_1 c.args.text.now c.args.cursor c.requires)

pub returns-in-0-to-127 : goal.returns-in-0-to-127
returns-in-0-to-127 c = λ x t l. reads_1 c.args.text.now c.args.cursor (x, t, l) c.from.result (omega arith) (cc)

pub returns-in-128-to-223 : goal.returns-in-128-to-223
returns-in-128-to-223 c = λ x t l. reads_2 c.args.text.now c.args.cursor (x, t, l) c.joined.result (omega arith) (omega arith) (cc)

pub returns-in-224-to-239 : goal.returns-in-224-to-239
returns-in-224-to-239 c = λ x t l. reads_3 c.args.text.now c.args.cursor (x, t, l) c.joined-in-224-to-239.result (omega arith) (omega arith) (cc)

pub returns-in_default : goal.returns-in_default
returns-in_default c = λ x t l. reads_4 c.args.text.now c.args.cursor (x, t, l) c.joined-in_default.result (omega arith) (cc)
