-- Item 2 of two words joined, and items 2 and 5 of what they leave themselves. Assumes nothing.
use mathlib.Core.Path.{◌≡◌, refl, sym, ap, ◌∙◌}
use mathlib.Core.Bool.{Bool, true, false}
use mathlib.Core.Logic.{inr}
use mathlib.Core.List.{[], ◌∷◌, ◌++◌, append_assoc, append-nil}
use Prim.Native.Nat.{ℕ}
use native.Mathlib.Omega.{arith}
use lib.Dec.{eqb}
use borrow.Author.Tests.{eqb-false}
use Rattle.definition.specs.Letters.{hamza, alef_madda, alef_hamza_above, waw_hamza, alef_hamza_below, yeh_hamza, alef, beh, waw, yeh}
use Rattle.definition.specs.Words.{Word, pick}
use Rattle.definition.specs.Normal.{normal, normalise}
use Rattle.definition.specs.Finish.{last, other, last_letter, all_letters, finish}
use Rattle.definition.specs.Demand3.{NoHamza, AllOf}
use Rattle.definition.proofs.Stays.{none_of_five, last-stays, other-stays}
use Rattle.definition.proofs.Finish.{finish-one, finish-more}
use Rattle.definition.proofs.Plain.{normalise-plain}
use Rattle.definition.proofs.Passed.{key_free_word}

-- ---- item 2

pub normalise-joined : (u v : Word) → normalise (u ++ v) ≡ normalise u ++ normalise v
unfolding normalise
normalise-joined [] v = refl
normalise-joined (c ∷ u) v = ap (λ (x : Word). normal c ++ x) (normalise-joined u v) ∙ sym (append_assoc (normal c) (normalise u) (normalise v))

pub normalise_twice : (w : Word) → normalise (normalise w) ≡ normalise w
normalise_twice w = key_free_word (normalise w) (normalise-plain w)

-- ---- item 5

one_of_two : (b : Bool) (x y : ℕ) → NoHamza x → (b ≡ false → NoHamza y) → NoHamza (pick b x y)
one_of_two true x y h k = h
one_of_two false x y h k = k refl

other_free : (c : ℕ) → NoHamza (other c)
unfolding other
other_free c =
    one_of_two (eqb c alef_madda) alef _ (inr (omega arith))
    (λ t2. one_of_two (eqb c alef_hamza_above) alef _ (inr (omega arith))
    (λ t3. one_of_two (eqb c waw_hamza) waw _ (inr (omega arith))
    (λ t4. one_of_two (eqb c alef_hamza_below) alef _ (inr (omega arith))
    (λ t5. one_of_two (eqb c yeh_hamza) yeh c (inr (omega arith))
    (λ t6. none_of_five c (eqb-false c alef_madda t2) (eqb-false c alef_hamza_above t3) (eqb-false c waw_hamza t4) (eqb-false c alef_hamza_below t5) (eqb-false c yeh_hamza t6))))))

all_free : (w : Word) → AllOf NoHamza (all_letters w)
all_free [] = tt
all_free (c ∷ w) = (other_free c, all_free w)

pub finish_free : (w : Word) → AllOf NoHamza (finish w)
unfolding finish
finish_free w = all_free (last_letter w)

pub finish-stays : (w : Word) → AllOf NoHamza w → finish w ≡ w
unfolding finish
finish-stays [] h = refl
finish-stays (c ∷ []) h = finish-one c ∙ ap (λ (x : ℕ). x ∷ []) (last-stays c h.0)
finish-stays (c ∷ d ∷ w) h = finish-more c d w ∙ λ i. other-stays c h.0 i ∷ finish-stays (d ∷ w) h.1 i

pub finish_twice : (w : Word) → finish (finish w) ≡ finish w
finish_twice w = finish-stays (finish w) (finish_free w)

-- ---- item 5 of two words joined

pub finish_apart : (finish (alef_hamza_above ∷ beh ∷ []) ≡ alef ∷ beh ∷ []) × (finish (alef_hamza_above ∷ []) ++ finish (beh ∷ []) ≡ hamza ∷ beh ∷ [])
unfolding finish last other
finish_apart = (refl, refl)

pub finish_with_none : (w : Word) → (finish ([] ++ w) ≡ finish [] ++ finish w) × (finish (w ++ []) ≡ finish w ++ finish [])
unfolding finish
finish_with_none w = (refl, ap finish (append-nil w) ∙ sym (append-nil (finish w)))
