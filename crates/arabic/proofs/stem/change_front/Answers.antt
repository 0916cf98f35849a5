-- `stem::change_front` meets its contract. Assumes nothing.
use mathlib.Core.Path.{refl}
use Rattle.definition.specs.Tries.{after}
use Rattle.definition.specs.Fronts.{prefix_steps, fronts}
use Rattle.definition.specs.Fronts as definition
use Rattle.arabic.specs.Kinds.{kind_by_verb}
use Rattle.arabic.specs.Fronts.{Passed}
use Rattle.arabic.proofs.Nest.{left_after}
use Rattle.arabic.proofs.Items.{at_start, back_to}
use Rattle.arabic.proofs.stem.change_front.Goals as goal

pub prefixes-requires : goal.prefixes-requires
prefixes-requires c = let p = c.requires in (p.0, (p.1.0, at_start _ p.0 p.1.0 p.1.1 refl))

pub returns-clause-stands : goal.returns-clause-stands
unfolding fronts
returns-clause-stands c =
    let a = c.args in
    λ w ps st. back_to a.env c.left_by-changed.result w ps (after (prefix_steps (kind_by_verb a.context.b_is_verb) (definition.started w))) st (left_after (Passed ps) c.prefixes.result _ _ c.left_by-changed.ensures (c.prefixes.ensures ps w (at_start _ w ps st refl)))

pub returns-clause-noted : goal.returns-clause-noted
unfolding fronts
returns-clause-noted c =
    let a = c.args in
    λ w ps st.
    let n = (left_after (Passed ps) c.prefixes.result (prefix_steps (kind_by_verb a.context.b_is_verb) (definition.started w)) c.left_by-changed.result c.left_by-changed.ensures (c.prefixes.ensures ps w (at_start _ w ps st refl))).state.noted in
    record { made = n.made; changes = n.changes }
