-- `prefix_steps::r_Prefix_Step3b_Noun` meets its contract: its table is A_7, with its guards, what stands for its rows, and its number. Assumes nothing.
use mathlib.Core.Path.{refl, sym, ◌∙◌}
use mathlib.Core.List.{[], ◌∷◌}
use Rattle.definition.specs.Letters.{alef, beh}
use Rattle.definition.specs.Tables.{A_7}
use Rattle.definition.specs.Fronts.{prefix_step3b_noun, prefix, replacements, not_at, change}
use Rattle.utf8.specs.Utf8.{encode1, encode}
use Rattle.arabic.proofs.Fronted.{barred, looks, any_here, any_next}
use Rattle.arabic.specs.Fronts.{Passed, Fronts}
use Rattle.arabic.proofs.FrontSteps.{unpassed_changes, third}
use Rattle.arabic.proofs.prefix_steps.r_Prefix_Step3b_Noun.Goals as goal

pub returns-then-stands_at : goal.returns-then-stands_at
unfolding prefix not_at A_7 encode encode1
returns-then-stands_at c =
    let x = c.args.env in
    λ ps w st.
    barred x ps w st.state.stands (Passed ps) (Fronts ps) st prefix_step3b_noun (
    any_here w.rest (beh ∷ alef ∷ []) ([]) (sym (looks x ps w st.state.stands _ c.text.ensures _ beh (alef ∷ []) refl refl) ∙ sym c.stands_at.ensures ∙ c.if-stands_at.true))

pub prefix_step-requires : goal.prefix_step-requires
unfolding prefix replacements A_7 encode encode1
prefix_step-requires c = let p = c.requires in (prefix_step3b_noun, (p.0, ((p.1.0, p.1.1.state), (record { table = refl; letters = refl; guards = refl }, refl, refl))))

pub returns : goal.returns
unfolding prefix replacements not_at change A_7 encode encode1
returns c =
    let x = c.args.env in
    λ ps w st.
    let r = c.prefix_step.ensures prefix_step3b_noun ps w st.state (record { table = refl; letters = refl; guards = refl }) refl refl
    (any_next w.rest (beh ∷ alef ∷ []) ([]) (sym (looks x ps w st.state.stands _ c.text.ensures _ beh (alef ∷ []) refl refl) ∙ sym c.stands_at.ensures ∙ c.if-stands_at.false))
    (unpassed_changes prefix_step3b_noun ps w (λ m. refl) st.placed st.unpassed) in
    (third prefix_step3b_noun ps w (λ m. refl) st.placed st.unpassed _ r.0, r.1)
