-- `normalised_env` meets its contract. Assumes nothing.
use Rattle.definition.specs.Normal.{normalise}
use Rattle.stemmer.specs.Entries.{letters}
use Rattle.stemmer.proofs.Without.{left-work}
use Rattle.stemmer.proofs.normalised_env.Goals as goal

pub returns : goal.returns
returns c = let w = letters c.args.word.now in (_, left-work normalise w c.r_Normalize_pre.result _ (c.r_Normalize_pre.ensures _ c.unmarked_env.ensures.0))
