-- `tell_fronts` meets its contract: the changes that are noted are the fronts. Assumes nothing.
use mathlib.Core.Path.{sym, subst}
use native.Mathlib.Omega.{arith}
use Rattle.definition.specs.Fronts.{fronts}
use Rattle.arabic.specs.Kinds.{kind_by_verb}
use Rattle.arabic.specs.Changes.{front_numbers}
use Rattle.story.specs.Telling.{AllNoted, front_deeds}
use Rattle.story.proofs.NotedLines.{few_made, noted_are, fronts_noted}
use Rattle.story.proofs.steps.tell_fronts.Goals as goal

pub shared_ref_as_front-tell_changes : goal.shared_ref_as_front-tell_changes
shared_ref_as_front-tell_changes c = let r = c.requires in omega (arith, few_made c.change_front-changed.result _ (c.change_front-changed.ensures.noted r.0 r.1.0 r.1.1.0))

pub tell_changes-requires : goal.tell_changes-requires
unfolding front_deeds
tell_changes-requires c =
    let r = c.requires in
    let x = c.change_front-changed.result in
    let fs = (fronts (kind_by_verb c.args.context.b_is_verb) r.0).applied in
    (_, (subst (AllNoted _) (sym (noted_are x (front_numbers fs) (c.change_front-changed.ensures.noted r.0 r.1.0 r.1.1.0))) (fronts_noted fs), r.1.1.1))

pub returns-clause-left : goal.returns-clause-left
returns-clause-left c = λ w ps st. (_, c.change_front-changed.ensures.stands w ps st)

pub returns-clause-tells : goal.returns-clause-tells
unfolding front_deeds
returns-clause-tells c = λ w ps st f.
    let x = c.change_front-changed.result in
    let fs = (fronts (kind_by_verb c.args.context.b_is_verb) w).applied in
    c.tell_changes.ensures _ (subst (AllNoted _) (sym (noted_are x (front_numbers fs) (c.change_front-changed.ensures.noted w ps st))) (fronts_noted fs)) f
