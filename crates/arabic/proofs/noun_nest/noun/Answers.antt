-- `noun_nest::noun` meets its contract. Assumes nothing.
use mathlib.Core.Path.{sym, ap, ◌∙◌, subst}
use Rattle.definition.specs.Tries.{Try, and_then}
use Rattle.definition.specs.Endings.{Cutting, cut, noun_step3}
use Rattle.arabic.specs.Endings.{Gives}
use Rattle.arabic.specs.Kinds.{kind_of}
use Rattle.arabic.proofs.Nest.{noun_is}
use Rattle.arabic.proofs.noun_nest.noun.Goals as goal

pub r_Suffix_Noun_Step3-requires : goal.r_Suffix_Noun_Step3-requires
r_Suffix_Noun_Step3-requires c = let p = c.requires in let w = c.first_cut-cut.ensures p.1.0 p.0 p.1.1 in (w.0, (p.1.0, w.1.1))

pub returns : goal.returns
returns c = λ ps v st.
    let w = c.first_cut-cut.ensures ps v st in
    subst (Gives ps c.r_Suffix_Noun_Step3.result.outcome) (ap (λ (y : Try Cutting). and_then y (cut noun_step3)) (sym w.1.0) ∙ noun_is (kind_of c.args.b_is_defined) v) (c.r_Suffix_Noun_Step3.ensures ps w.0 w.1.1).0
