-- `finish` meets its contract: the work is item 5. Assumes nothing.
use Rattle.std.proofs.Common.{rules}
use Rattle.definition.specs.Finish.{finish}
use Rattle.stemmer.proofs.finish.Goals as goal

pub answered-requires : goal.answered-requires
answered-requires c = (finish, search rules)

pub returns-clause-out_len_bound : goal.returns-clause-out_len_bound
returns-clause-out_len_bound c = c.answered.ensures.out_len_bound finish (search rules)
