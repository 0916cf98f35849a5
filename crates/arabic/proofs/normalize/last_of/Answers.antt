-- `normalize::last_of` meets its contract: its table is A_1. Assumes nothing.
use mathlib.Core.Path.{refl, sym, ◌∙◌}
use mathlib.Core.List.{[], ◌∷◌}
use borrow.Author.Rules.{rules}
use Rattle.utf8.specs.Utf8.{encode1, encode}
use Rattle.utf8.proofs.Text.{encode_one}
use Rattle.definition.specs.Tables.{A_1}
use Rattle.arabic.proofs.Guarded.{whole}
use Rattle.arabic.proofs.FinishedLetter.{last_of_class, last_of_none}
use Rattle.arabic.proofs.normalize.last_of.Goals as goal

pub returns-in-1-to-3 : goal.returns-in-1-to-3
unfolding A_1 encode encode1
returns-in-1-to-3 c = last_of_class c.args.c c.find_among_b.result.class ((c.find_among_b.ensures.behind A_1 refl refl (c.args.c ∷ []) (c.requires.scalar, tt) (whole c.args.letter.now ∙ c.requires.same ∙ sym (encode_one c.args.c))).finds.class) (search rules) (search rules)

pub returns-in_default : goal.returns-in_default
unfolding A_1 encode encode1
returns-in_default c = last_of_none c.args.c c.find_among_b.result.class ((c.find_among_b.ensures.behind A_1 refl refl (c.args.c ∷ []) (c.requires.scalar, tt) (whole c.args.letter.now ∙ c.requires.same ∙ sym (encode_one c.args.c))).finds.class) (search rules)
