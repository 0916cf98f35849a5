-- `noun_nest::by_Step1b` meets its contract. Assumes nothing.
use mathlib.Core.Path.{subst}
use Rattle.std.proofs.Common.{rules}
use Rattle.definition.specs.Endings.{cut, noun_step1b}
use Rattle.arabic.specs.Endings.{Ends, Gives}
use Rattle.arabic.specs.Nests.{after_step1b}
use Rattle.arabic.proofs.Nest.{and_next, by_step1b_is}
use Rattle.arabic.proofs.noun_nest.by_Step1b.Goals as goal

pub returns : goal.returns
returns c = λ ps v st.
    let a = c.r_Suffix_Noun_Step1b in
    let r = c.and_then in
    subst (Gives ps r.result) (by_step1b_is v)
    (and_next (Ends ps) a.result.outcome r.result after_step1b (search rules) (cut noun_step1b v) (a.ensures ps v st).0)
