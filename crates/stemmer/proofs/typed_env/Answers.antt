-- `typed_env` meets its contract: an accepted word is short enough, and its bytes are those of its letters. Assumes nothing.
use native.Mathlib.Omega.{arith}
use Rattle.stemmer.specs.Entries.{letters}
use Rattle.stemmer.proofs.Answers.{short, scalars, spelling}
use Rattle.stemmer.proofs.Without.{typed_stands}
use Rattle.stemmer.proofs.typed_env.Goals as goal

pub returns : goal.returns
returns c =
    let w = c.args.word.now in
    (typed_stands w c.requires c.create.result (c.create.ensures.1 (letters w) (scalars w c.requires) (spelling w c.requires)), omega (arith, c.create.ensures.0.limit, short w c.requires))
