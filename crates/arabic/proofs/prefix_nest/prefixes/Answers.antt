-- `prefix_nest::prefixes` meets its contract. Assumes nothing.
use mathlib.Core.Path.{subst}
use Rattle.definition.specs.Fronts.{started}
use Rattle.arabic.specs.Fronts.{Fronts, GivesPassed}
use Rattle.arabic.specs.Kinds.{kind_by_verb}
use Rattle.arabic.proofs.Nest.{left_after, prefix_steps_is}
use Rattle.arabic.proofs.prefix_nest.prefixes.Goals as goal

pub returns : goal.returns
returns c = λ ps w st.
    let r = c.prefix_Step3 in
    subst (GivesPassed ps r.result) (prefix_steps_is (kind_by_verb c.args.context.b_is_verb) (started w))
    (r.ensures ps _ (left_after (Fronts ps) c.r_Prefix_Step2.result.outcome _ _ c.left_by-second.ensures
    (c.r_Prefix_Step2.ensures ps _ (left_after (Fronts ps) c.r_Prefix_Step1.result.outcome _ _ c.left_by-first.ensures (c.r_Prefix_Step1.ensures ps w st).0)).0))
