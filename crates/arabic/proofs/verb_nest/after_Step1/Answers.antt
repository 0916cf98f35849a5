-- `verb_nest::after_Step1` meets its contract. Assumes nothing.
use Rattle.std.proofs.Common.{rules}
use Rattle.definition.specs.Endings.{cut, verb_step2a, verb_step2c}
use Rattle.arabic.specs.Endings.{Ends}
use Rattle.arabic.proofs.Nest.{left_is, or_else, after_step1_is}
use Rattle.arabic.proofs.verb_nest.after_Step1.Goals as goal

pub returns : goal.returns
returns c = λ ps v st.
    let a = c.r_Suffix_Verb_Step2a in
    let b = c.or_else-tried in
    left_is (Ends ps) b.result _ _ _ (after_step1_is v) c.left_by.ensures
    (or_else (Ends ps) (Ends ps) (Ends ps) a.result.outcome b.result (cut verb_step2c) (search rules) (cut verb_step2a v) (a.ensures ps v st).0)
