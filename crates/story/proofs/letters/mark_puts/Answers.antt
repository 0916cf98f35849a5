-- `mark_puts` meets its contract. Assumes nothing.
use mathlib.Core.Path.{◌∙◌}
use Rattle.story.proofs.Puts.{marks_put}
use Rattle.story.proofs.letters.mark_puts.Goals as goal

pub returns : goal.returns
returns c = c.then_some.ensures ∙ marks_put c.args.letter c.is_mark.result c.is_mark.ensures
