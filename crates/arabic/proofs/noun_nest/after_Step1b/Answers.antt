-- `noun_nest::after_Step1b` meets its contract. Assumes nothing.
use mathlib.Core.Path.{subst}
use Rattle.std.proofs.Common.{rules}
use Rattle.definition.specs.Endings.{cut, noun_step2a, noun_step2b, noun_step2c1}
use Rattle.arabic.specs.Endings.{Ends, Gives}
use Rattle.arabic.proofs.Nest.{or_else, after_step1b_is}
use Rattle.arabic.proofs.noun_nest.after_Step1b.Goals as goal

pub returns : goal.returns
returns c = λ ps v st.
    let a = c.r_Suffix_Noun_Step2a in
    let t = c.or_else in
    let r = c.or_else-2 in
    subst (Gives ps r.result) (after_step1b_is v)
    (or_else (Ends ps) (Ends ps) (Ends ps) t.result r.result (cut noun_step2c1) (search rules) _
    (or_else (Ends ps) (Ends ps) (Ends ps) a.result.outcome t.result (cut noun_step2b) (search rules) (cut noun_step2a v) (a.ensures ps v st).0))
