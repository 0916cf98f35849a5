-- `rows::Word::at_front` meets its contract: the word's letters stand in the new environment, which has no change. Assumes nothing.
use native.Mathlib.Omega.{arith}
use Rattle.utf8.specs.Beside.{letter_starts}
use Rattle.stemmer.specs.Entries.{letters}
use Rattle.stemmer.proofs.Answers.{short, scalars, spelling}
use Rattle.recorded.proofs.rows.Word.at_front.Goals as goal

pub create-requires : goal.create-requires
create-requires c = omega (arith, short c.args.self.now.bytes.now c.args.self.now.accepted)

pub returns : goal.returns
returns c =
    let w = c.args.self.now.bytes.now in
    let e = c.args.self.now.accepted in
    (letters w, (letter_starts 0 (letters w), (c.create.ensures.1 (letters w) (scalars w e) (spelling w e), c.create.ensures.0.made)))
