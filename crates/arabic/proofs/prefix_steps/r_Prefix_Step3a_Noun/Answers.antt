-- `prefix_steps::r_Prefix_Step3a_Noun` meets its contract: its table is A_6, with its guards, what stands for its rows, and its number. Assumes nothing.
use mathlib.Core.Path.{refl}
use Rattle.definition.specs.Tables.{A_6}
use Rattle.definition.specs.Fronts.{prefix_step3a_noun, prefix, replacements, not_at, change}
use Rattle.utf8.specs.Utf8.{encode1, encode}
use Rattle.arabic.proofs.FrontSteps.{unpassed_changes, third}
use Rattle.arabic.proofs.prefix_steps.r_Prefix_Step3a_Noun.Goals as goal

pub prefix_step-requires : goal.prefix_step-requires
unfolding prefix replacements A_6 encode encode1
prefix_step-requires c = let p = c.requires in (prefix_step3a_noun, (p.0, ((p.1.0, p.1.1.state), (record { table = refl; letters = refl; guards = refl }, refl, refl))))

pub returns : goal.returns
unfolding prefix replacements not_at change A_6 encode encode1
returns c =
    λ ps w st.
    let r = c.prefix_step.ensures prefix_step3a_noun ps w st.state (record { table = refl; letters = refl; guards = refl }) refl refl
    refl
    (unpassed_changes prefix_step3a_noun ps w (λ m. refl) st.placed st.unpassed) in
    (third prefix_step3a_noun ps w (λ m. refl) st.placed st.unpassed _ r.0, r.1)
