-- `prefix_steps::r_Prefix_Step2` meets its contract: its table is A_5, with its guards, what stands for its rows, and its number. Assumes nothing.
use mathlib.Core.Path.{refl, sym, ◌∙◌}
use mathlib.Core.List.{[], ◌∷◌}
use Rattle.definition.specs.Letters.{alef, feh, waw}
use Rattle.definition.specs.Tables.{A_5}
use Rattle.definition.specs.Fronts.{prefix_step2, prefix, replacements, not_at, change}
use Rattle.utf8.specs.Utf8.{encode1, encode}
use Rattle.arabic.proofs.Fronted.{barred, looks, any_here, any_next}
use Rattle.arabic.specs.Fronts.{Fronts}
use Rattle.arabic.proofs.FrontSteps.{unpassed_changes, second, step2_puts_none}
use Rattle.arabic.proofs.prefix_steps.r_Prefix_Step2.Goals as goal

pub returns-then-stands_at : goal.returns-then-stands_at
unfolding prefix not_at A_5 encode encode1
returns-then-stands_at c =
    let x = c.args.env in
    λ ps w st.
    barred x ps w st.state.stands (Fronts ps) (Fronts ps) st prefix_step2 (
    any_here w.rest (feh ∷ alef ∷ []) ((waw ∷ alef ∷ []) ∷ []) (sym (looks x ps w st.state.stands _ c.text.ensures _ feh (alef ∷ []) refl refl) ∙ sym c.stands_at.ensures ∙ c.if-stands_at.true))

pub returns-then-stands_at-2 : goal.returns-then-stands_at-2
unfolding prefix not_at A_5 encode encode1
returns-then-stands_at-2 c =
    let x = c.args.env in
    λ ps w st.
    barred x ps w st.state.stands (Fronts ps) (Fronts ps) st prefix_step2 (
    any_next w.rest (feh ∷ alef ∷ []) ((waw ∷ alef ∷ []) ∷ []) (sym (looks x ps w st.state.stands _ c.text.ensures _ feh (alef ∷ []) refl refl) ∙ sym c.stands_at.ensures ∙ c.if-stands_at.false)
    ∙ any_here w.rest (waw ∷ alef ∷ []) ([]) (sym (looks x ps w st.state.stands _ c.text-2.ensures _ waw (alef ∷ []) refl refl) ∙ sym c.stands_at-2.ensures ∙ c.if-stands_at-2.true))

pub prefix_step-requires : goal.prefix_step-requires
unfolding prefix replacements A_5 encode encode1
prefix_step-requires c = let p = c.requires in (prefix_step2, (p.0, ((p.1.0, p.1.1.state), (record { table = refl; letters = refl; guards = refl }, refl, refl))))

pub returns : goal.returns
unfolding prefix replacements not_at change A_5 encode encode1
returns c =
    let x = c.args.env in
    λ ps w st.
    let r = c.prefix_step.ensures prefix_step2 ps w st.state (record { table = refl; letters = refl; guards = refl }) refl refl
    (any_next w.rest (feh ∷ alef ∷ []) ((waw ∷ alef ∷ []) ∷ []) (sym (looks x ps w st.state.stands _ c.text.ensures _ feh (alef ∷ []) refl refl) ∙ sym c.stands_at.ensures ∙ c.if-stands_at.false)
    ∙ any_next w.rest (waw ∷ alef ∷ []) ([]) (sym (looks x ps w st.state.stands _ c.text-2.ensures _ waw (alef ∷ []) refl refl) ∙ sym c.stands_at-2.ensures ∙ c.if-stands_at-2.false))
    (unpassed_changes prefix_step2 ps w (λ m. refl) st.placed st.unpassed) in
    (second prefix_step2 ps w (λ m. refl) st.placed st.unpassed step2_puts_none _ r.0, r.1)
