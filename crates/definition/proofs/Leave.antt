-- Item 3 as it is run, with the last 0649 as its third choice: what it leaves, and what it has cut. Assumes nothing.
use mathlib.Core.Path.{◌≡◌, refl, sym, ap}
use mathlib.Core.List.{[], ◌∷◌}
use Rattle.definition.specs.Letters.{alef_maksura}
use Rattle.definition.specs.Words.{Word, ends_with}
use Rattle.definition.specs.Tries.{Step, Try, done, failed, after, if_failed, first_of}
use Rattle.definition.specs.Kind.{Kind, if_open}
use Rattle.definition.specs.Endings.{Cutting, uncut, verb, noun, endings, suffix_all_alef_maqsura, maqsura, all_endings, endings_leave, maqsura_if_failed}
use Rattle.definition.specs.Stem.{cutting}
use Rattle.definition.proofs.Match.{by}
use Rattle.definition.proofs.Stays.{maqsura-stays}

-- what verb and noun leave, with the last 0649 changed if they have failed
abbrev then_maqsura : Try Cutting → Cutting
then_maqsura t = record { text = maqsura_if_failed t (after t).text; cuts = (after t).cuts }

maqsura-step : (x : Cutting) → after (first_of (maqsura ∷ []) x) ≡ record { text = suffix_all_alef_maqsura x.text; cuts = x.cuts }
unfolding first_of
maqsura-step x = by (ends_with x.text (alef_maksura ∷ []))
    (λ t. rw t refl)
    (λ t. rw t (ap (λ (w : Word). record { text = w; cuts = x.cuts }) (sym (maqsura-stays x.text t))))

three : (f g : Step Cutting) (w : Cutting) → after (first_of (f ∷ g ∷ maqsura ∷ []) w) ≡ then_maqsura (first_of (f ∷ g ∷ []) w)
unfolding first_of maqsura_if_failed
three f g w = one (f w)
  where
    two : (t : Try Cutting) → after (if_failed t (first_of (maqsura ∷ []))) ≡ then_maqsura (if_failed t (first_of []))
    two (done b) = refl
    two (failed b) = maqsura-step b

    one : (t : Try Cutting) → after (if_failed t (first_of (g ∷ maqsura ∷ []))) ≡ then_maqsura (if_failed t (first_of (g ∷ [])))
    one (done b) = refl
    one (failed b) = two (g b)

pub all-endings : (k : Kind) (n : Word) → after (all_endings k n) ≡ record { text = maqsura_if_failed (endings k n) (cutting k n).text; cuts = (cutting k n).cuts }
unfolding endings cutting
all-endings k n = three (if_open k verb) (noun k) (uncut n)

pub endings_leave_lem : (k : Kind) (n : Word) → endings_leave k n ≡ maqsura_if_failed (endings k n) (cutting k n).text
endings_leave_lem k n = ap (λ (v : Cutting). v.text) (all-endings k n)
