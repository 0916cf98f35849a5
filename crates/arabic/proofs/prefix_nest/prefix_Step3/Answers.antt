-- `prefix_nest::prefix_Step3` meets its contract. Assumes nothing.
use mathlib.Core.Path.{subst}
use Rattle.std.proofs.Common.{rules}
use Rattle.definition.specs.Kind.{if_open}
use Rattle.definition.specs.Fronts.{prefix_step3a_noun, prefix_step3b_noun, apply}
use Rattle.arabic.specs.Fronts.{Passed, Fronts, GivesPassed}
use Rattle.arabic.specs.Kinds.{kind_by_verb}
use Rattle.arabic.specs.Nests.{verb_steps}
use Rattle.arabic.proofs.Nest.{or_else, prefix_step3_is}
use Rattle.arabic.proofs.prefix_nest.prefix_Step3.Goals as goal

pub returns : goal.returns
returns c = λ ps w st.
    let k = kind_by_verb c.args.context.b_is_verb in
    let a = c.r_Prefix_Step3a_Noun in
    let t = c.or_else in
    let r = c.or_else-2 in
    subst (GivesPassed ps r.result) (prefix_step3_is k w)
    (or_else (Passed ps) (Fronts ps) (Passed ps) t.result r.result (if_open k verb_steps) (search rules) _
    (or_else (Passed ps) (Fronts ps) (Fronts ps) a.result.outcome t.result (apply prefix_step3b_noun) (search rules) (apply prefix_step3a_noun w) (a.ensures ps w st).0))
