-- `normalise` meets its contract: the work is item 2 of the word without its marks. Assumes nothing.
use Rattle.std.proofs.Common.{rules}
use Rattle.definition.specs.Normal.{normalise}
use Rattle.definition.specs.Floating.{without_marks}
use Rattle.stemmer.proofs.normalise.Goals as goal

pub answered-requires : goal.answered-requires
answered-requires c = (without_marks normalise, search rules)

pub returns-clause-out_len_bound : goal.returns-clause-out_len_bound
returns-clause-out_len_bound c = c.answered.ensures.out_len_bound (without_marks normalise) (search rules)
