-- Of the fronts, those that a defined word meets.
use Rattle.std.specs.Prelude.{List, [], ◌∷◌}
use Rattle.definition.specs.Fronts.{PrefixStep, prefix_step1, prefix_step2, prefix_step3a_noun, prefix_step3b_noun, prefix_step3_verb, prefix_step4_verb, Applied}

-- Step3a_Noun, which takes the article
abbrev pub Article : PrefixStep → Type 0
Article prefix_step1 = ⊥
Article prefix_step2 = ⊥
Article prefix_step3a_noun = Unit {0}
Article prefix_step3b_noun = ⊥
Article prefix_step3_verb = ⊥
Article prefix_step4_verb = ⊥

-- P holds of the step of every change
abbrev pub AllApplied : (PrefixStep → Type 0) → List Applied → Type 0
AllApplied P [] = Unit {0}
AllApplied P (m ∷ ms) = P m.step × AllApplied P ms
