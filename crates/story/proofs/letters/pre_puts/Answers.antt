-- `pre_puts` meets its contract: the letters that the class gives are counted. Assumes nothing.
use mathlib.Core.Path.{sym, ap, ◌∙◌}
use Rattle.std.specs.Prelude.{Some}
use Rattle.definition.specs.Normal.{gives, listed_for}
use Rattle.story.proofs.Puts.{class_below, pre_some, pre_none}
use Rattle.story.proofs.letters.pre_puts.Goals as goal

pub class_gives-requires : goal.class_gives-requires
class_gives-requires c = class_below c.args.letter c.in-Some.class (sym c.in-Some.is ∙ c.listed_class.ensures)

pub returns-in-Some : goal.returns-in-Some
returns-in-Some c =
    let k = c.in-Some.class in
    ap Some (c.count_chars.ensures.by_letters (listed_for gives k) c.class_gives.ensures) ∙ pre_some c.args.letter k (sym c.in-Some.is ∙ c.listed_class.ensures)

pub returns-in-None : goal.returns-in-None
returns-in-None c = pre_none c.args.letter (sym c.in-None.is ∙ c.listed_class.ensures)
