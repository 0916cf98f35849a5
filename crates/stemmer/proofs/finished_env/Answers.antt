-- `finished_env` meets its contract. Assumes nothing.
use Rattle.stemmer.specs.Entries.{letters}
use Rattle.stemmer.proofs.Without.{typed-text}
use Rattle.stemmer.proofs.finished_env.Goals as goal

pub finish_letters-requires : goal.finish_letters-requires
finish_letters-requires c = let w = letters c.args.word.now in (w, (_, typed-text w c.typed_env.result c.typed_env.ensures.0))

pub returns : goal.returns
returns c = let w = letters c.args.word.now in (_, c.finish_letters.ensures w _ (typed-text w c.typed_env.result c.typed_env.ensures.0))
