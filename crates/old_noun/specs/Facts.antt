-- What the main theorems speak of: cuts that are none of Step1a's, and words that the old definition cuts by Step1a if no verb is tried before the noun.
use Rattle.std.specs.Prelude.{ℕ, List, [], ◌∷◌}
use Rattle.definition.specs.Letters.{alef, teh_marbuta, teh, hah, dal, reh, kaf, meem, noon, heh, yeh}
use Rattle.definition.specs.Words.{Word}
use Rattle.definition.specs.Tries.{failed, after}
use Rattle.definition.specs.Kind.{OPEN}
use Rattle.definition.specs.Endings.{SuffixStep, noun_step1b, noun_step2a, noun_step2b, noun_step2c1, noun_step2c2, noun_step3}
use Rattle.old_noun.specs.OldNoun.{OldStep, kept, noun_step1a, OldCut, OldCutting, old_endings_by}

-- ---- steps

-- any step but the noun's Step1a
abbrev pub not_step1a : OldStep → Type 0
not_step1a (kept s) = Unit {0}
not_step1a noun_step1a = ⊥

-- P holds of the step of every cut
abbrev pub AllSteps : (OldStep → Type 0) → List OldCut → Type 0
AllSteps P [] = Unit {0}
AllSteps P (c ∷ cs) = P c.step × AllSteps P cs

-- ---- words without the verb

-- an open word, what is left of it, and the endings cut, the last one foremost
pub record Left : Type 0 where
  pub word : Word
  pub text : Word
  pub cuts : List OldCut

abbrev pub left : Word → Word → List OldCut → Left
left w t cs = record { word = w; text = t; cuts = cs }

-- with a verb that always fails
abbrev pub verbless : Word → OldCutting
verbless n = after (old_endings_by (λ (v : OldCutting). failed v) OPEN n)

abbrev pub without_verb : Left → Left
without_verb x = left x.word (verbless x.word).text (verbless x.word).cuts

abbrev pub by_step1a : ℕ → OldCut
by_step1a r = record { step = noun_step1a; row = r }

abbrev pub by_kept : SuffixStep → ℕ → OldCut
by_kept s r = record { step = kept s; row = r }

-- a word for each row, in the table's order, with as many letters as its guard asks for
unfoldable pub long_enough : List Left
long_enough =
    left (dal ∷ reh ∷ hah ∷ kaf ∷ []) (dal ∷ reh ∷ hah ∷ []) (by_step1a 0 ∷ [])
    ∷ left (dal ∷ reh ∷ hah ∷ kaf ∷ meem ∷ []) (dal ∷ reh ∷ hah ∷ []) (by_step1a 1 ∷ [])
    ∷ left (dal ∷ reh ∷ hah ∷ heh ∷ meem ∷ []) (dal ∷ reh ∷ hah ∷ []) (by_step1a 2 ∷ [])
    ∷ left (dal ∷ reh ∷ hah ∷ heh ∷ noon ∷ []) (dal ∷ reh ∷ hah ∷ []) (by_step1a 3 ∷ [])
    ∷ left (dal ∷ reh ∷ hah ∷ heh ∷ []) (dal ∷ reh ∷ hah ∷ []) (by_step1a 4 ∷ [])
    ∷ left (dal ∷ reh ∷ hah ∷ yeh ∷ []) (dal ∷ reh ∷ hah ∷ []) (by_step1a 5 ∷ [])
    ∷ left (dal ∷ reh ∷ hah ∷ kaf ∷ meem ∷ alef ∷ []) (dal ∷ reh ∷ hah ∷ []) (by_step1a 6 ∷ [])
    ∷ left (dal ∷ reh ∷ hah ∷ heh ∷ meem ∷ alef ∷ []) (dal ∷ reh ∷ hah ∷ []) (by_step1a 7 ∷ [])
    ∷ left (dal ∷ reh ∷ hah ∷ noon ∷ alef ∷ []) (dal ∷ reh ∷ hah ∷ []) (by_step1a 8 ∷ [])
    ∷ left (dal ∷ reh ∷ hah ∷ heh ∷ alef ∷ []) (dal ∷ reh ∷ hah ∷ []) (by_step1a 9 ∷ []) ∷ []

-- with a letter less, Step1a does not cut them; where an ending is cut, another step cuts it
unfoldable pub too_short : List Left
too_short =
    left (dal ∷ reh ∷ kaf ∷ []) (dal ∷ reh ∷ kaf ∷ []) []
    ∷ left (dal ∷ reh ∷ kaf ∷ meem ∷ []) (dal ∷ reh ∷ kaf ∷ meem ∷ []) []
    ∷ left (dal ∷ reh ∷ heh ∷ meem ∷ []) (dal ∷ reh ∷ heh ∷ meem ∷ []) []
    ∷ left (dal ∷ reh ∷ heh ∷ noon ∷ []) (dal ∷ reh ∷ heh ∷ noon ∷ []) []
    ∷ left (dal ∷ reh ∷ heh ∷ []) (dal ∷ reh ∷ heh ∷ []) []
    ∷ left (dal ∷ reh ∷ yeh ∷ []) (dal ∷ reh ∷ []) (by_kept noun_step3 0 ∷ [])
    ∷ left (dal ∷ reh ∷ kaf ∷ meem ∷ alef ∷ []) (dal ∷ reh ∷ kaf ∷ meem ∷ []) (by_kept noun_step2a 2 ∷ [])
    ∷ left (dal ∷ reh ∷ heh ∷ meem ∷ alef ∷ []) (dal ∷ reh ∷ heh ∷ meem ∷ []) (by_kept noun_step2a 2 ∷ [])
    ∷ left (dal ∷ reh ∷ noon ∷ alef ∷ []) (dal ∷ reh ∷ noon ∷ alef ∷ []) []
    ∷ left (dal ∷ reh ∷ heh ∷ alef ∷ []) (dal ∷ reh ∷ heh ∷ alef ∷ []) [] ∷ []

-- what comes before and behind Step1a
unfoldable pub around : List Left
around =
    -- Step2c2 comes before
    left (dal ∷ reh ∷ hah ∷ kaf ∷ teh_marbuta ∷ []) (dal ∷ reh ∷ hah ∷ kaf ∷ []) (by_kept noun_step2c2 0 ∷ [])
    -- Step1b does not: it would take the last letter of 0647 0646
    ∷ left (dal ∷ reh ∷ hah ∷ dal ∷ heh ∷ noon ∷ []) (dal ∷ reh ∷ hah ∷ dal ∷ []) (by_step1a 3 ∷ [])
    -- and takes what no row of A_10 ends
    ∷ left (dal ∷ reh ∷ hah ∷ dal ∷ reh ∷ hah ∷ kaf ∷ noon ∷ []) (dal ∷ reh ∷ hah ∷ dal ∷ reh ∷ hah ∷ kaf ∷ []) (by_kept noun_step1b 0 ∷ [])
    -- after a cut: Step2a, Step2b, Step2c1
    ∷ left (dal ∷ reh ∷ hah ∷ dal ∷ alef ∷ kaf ∷ []) (dal ∷ reh ∷ hah ∷ dal ∷ []) (by_kept noun_step2a 2 ∷ by_step1a 0 ∷ [])
    ∷ left (dal ∷ reh ∷ hah ∷ alef ∷ teh ∷ kaf ∷ []) (dal ∷ reh ∷ hah ∷ []) (by_kept noun_step2b 0 ∷ by_step1a 0 ∷ [])
    ∷ left (dal ∷ reh ∷ hah ∷ dal ∷ teh ∷ kaf ∷ []) (dal ∷ reh ∷ hah ∷ dal ∷ []) (by_kept noun_step2c1 0 ∷ by_step1a 0 ∷ [])
    -- or nothing: neither Step1b nor Step2c2 nor Step1a again
    ∷ left (dal ∷ reh ∷ hah ∷ dal ∷ reh ∷ noon ∷ kaf ∷ []) (dal ∷ reh ∷ hah ∷ dal ∷ reh ∷ noon ∷ []) (by_step1a 0 ∷ [])
    ∷ left (dal ∷ reh ∷ hah ∷ teh_marbuta ∷ kaf ∷ []) (dal ∷ reh ∷ hah ∷ teh_marbuta ∷ []) (by_step1a 0 ∷ [])
    ∷ left (dal ∷ reh ∷ hah ∷ kaf ∷ kaf ∷ []) (dal ∷ reh ∷ hah ∷ kaf ∷ []) (by_step1a 0 ∷ [])
    -- and then Step3
    ∷ left (dal ∷ reh ∷ hah ∷ yeh ∷ kaf ∷ []) (dal ∷ reh ∷ hah ∷ []) (by_kept noun_step3 0 ∷ by_step1a 0 ∷ []) ∷ []
