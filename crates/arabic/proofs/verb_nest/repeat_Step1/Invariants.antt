-- `verb_nest::repeat_Step1` meets its contract. Assumes nothing.
use Rattle.definition.specs.Endings.{verb_step1}
use Rattle.arabic.specs.Endings.{Ready}
use Rattle.arabic.proofs.Repeat.{Same}
use Rattle.arabic.proofs.verb_nest.repeat_Step1.Given as goal

abbrev pub invariant-loop-cut : goal.invariant-loop-cut
invariant-loop-cut l = Ready l.e × Same verb_step1 l.initial.e l.e

abbrev pub decreases-loop-cut : goal.decreases-loop-cut
decreases-loop-cut l = l.e.limit
