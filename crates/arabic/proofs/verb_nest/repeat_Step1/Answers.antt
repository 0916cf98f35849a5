-- `verb_nest::repeat_Step1` meets its contract. Assumes nothing.
use mathlib.Core.Path.{subst}
use Rattle.std.specs.Prelude.{Result}
use Rattle.snowball.specs.declared.env.Env.{Env}
use Rattle.definition.specs.Endings.{cut, verb_step1}
use Rattle.arabic.specs.Endings.{Gives}
use Rattle.arabic.proofs.Repeat.{turn_less, turn_same, turn_end}
use Rattle.arabic.proofs.verb_nest.repeat_Step1.Goals as goal

pub loop-cut-smaller : goal.loop-cut-smaller
loop-cut-smaller c =
    turn_less verb_step1 c.loop-cut.e c.in-Ok.cut (λ ps v st. subst (λ (r : Result Env Env). Gives ps r (cut verb_step1 v)) c.in-Ok.is (c.r_Suffix_Verb_Step1.ensures ps v st).0) c.loop-cut.invariant.0

pub loop-cut-preserved : goal.loop-cut-preserved
loop-cut-preserved c =
    turn_same verb_step1 c.loop-cut.e c.in-Ok.cut (λ ps v st. subst (λ (r : Result Env Env). Gives ps r (cut verb_step1 v)) c.in-Ok.is (c.r_Suffix_Verb_Step1.ensures ps v st).0) c.loop-cut.invariant.0 c.args.env c.loop-cut.invariant.1

pub returns-in-Err : goal.returns-in-Err
returns-in-Err c =
    turn_end verb_step1 c.loop-cut.e c.in-Err.uncut (λ ps v st. subst (λ (r : Result Env Env). Gives ps r (cut verb_step1 v)) c.in-Err.is (c.r_Suffix_Verb_Step1.ensures ps v st).0) c.args.env c.loop-cut.invariant.1
