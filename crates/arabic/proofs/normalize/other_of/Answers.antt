-- `normalize::other_of` meets its contract: its table is A_2. Assumes nothing.
use mathlib.Core.Path.{refl, sym, ◌∙◌}
use mathlib.Core.List.{[], ◌∷◌}
use borrow.Author.Rules.{rules}
use Rattle.utf8.specs.Utf8.{encode1, encode}
use Rattle.utf8.proofs.Text.{encode_one}
use Rattle.definition.specs.Tables.{A_2}
use Rattle.arabic.proofs.Guarded.{whole}
use Rattle.arabic.proofs.FinishedLetter.{other_of_class, other_of_none}
use Rattle.arabic.proofs.normalize.other_of.Goals as goal

pub returns-in-1 : goal.returns-in-1
unfolding A_2 encode encode1
returns-in-1 c = other_of_class c.args.c c.find_among.result.class ((c.find_among.ensures.ahead A_2 refl refl (c.args.c ∷ []) (c.requires.scalar, tt) (whole c.args.letter.now ∙ c.requires.same ∙ sym (encode_one c.args.c))).finds.class) 1 c.in-1.is

pub returns-in-2 : goal.returns-in-2
unfolding A_2 encode encode1
returns-in-2 c = other_of_class c.args.c c.find_among.result.class ((c.find_among.ensures.ahead A_2 refl refl (c.args.c ∷ []) (c.requires.scalar, tt) (whole c.args.letter.now ∙ c.requires.same ∙ sym (encode_one c.args.c))).finds.class) 2 c.in-2.is

pub returns-in-3 : goal.returns-in-3
unfolding A_2 encode encode1
returns-in-3 c = other_of_class c.args.c c.find_among.result.class ((c.find_among.ensures.ahead A_2 refl refl (c.args.c ∷ []) (c.requires.scalar, tt) (whole c.args.letter.now ∙ c.requires.same ∙ sym (encode_one c.args.c))).finds.class) 3 c.in-3.is

pub returns-in_default : goal.returns-in_default
unfolding A_2 encode encode1
returns-in_default c = other_of_none c.args.c c.find_among.result.class ((c.find_among.ensures.ahead A_2 refl refl (c.args.c ∷ []) (c.requires.scalar, tt) (whole c.args.letter.now ∙ c.requires.same ∙ sym (encode_one c.args.c))).finds.class) (search rules) (search rules) (search rules)
