-- `prefix_nest::open_verb_steps` meets its contract. Assumes nothing.
use mathlib.Core.Path.{sym, subst}
use mathlib.Core.Bool.{Bool}
use Rattle.std.specs.Prelude.{Err}
use Rattle.definition.specs.Kind.{if_open}
use Rattle.arabic.specs.Fronts.{Passed, GivesPassed}
use Rattle.arabic.specs.Kinds.{kind_by_verb}
use Rattle.arabic.specs.Nests.{verb_steps}
use Rattle.arabic.proofs.Nest.{passed_of, third_passed, left_after, verb_steps_is}
use Rattle.arabic.proofs.prefix_nest.open_verb_steps.Goals as goal

pub returns-then-context : goal.returns-then-context
returns-then-context c = λ ps w st.
    let a = c.r_Prefix_Step3_Verb in
    let r = c.r_Prefix_Step4_Verb in
    let s = left_after (Passed ps) a.result.outcome _ _ c.left_by-stepped.ensures (third_passed ps a.result.outcome _ (a.ensures ps w st).0) in
    subst (λ (b : Bool). GivesPassed ps r.result.outcome (if_open (kind_by_verb b) verb_steps w)) (sym c.if-context.true)
    (subst (GivesPassed ps r.result.outcome) (verb_steps_is w) (r.ensures.0 ps _ s).0)

pub returns : goal.returns
returns c = λ ps w st.
    subst (λ (b : Bool). GivesPassed ps (Err c.args.env) (if_open (kind_by_verb b) verb_steps w)) (sym c.if-context.false) (passed_of ps c.args.env w st)
