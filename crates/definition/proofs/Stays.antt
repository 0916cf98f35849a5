-- Letters that items 3 and 5 leave as they are. Assumes nothing.
use mathlib.Core.Path.{◌≡◌, refl, sym, ap, ◌∙◌}
use mathlib.Core.Bool.{Bool, false}
use mathlib.Core.Logic.{inl, inr}
use mathlib.Core.List.{[], ◌∷◌}
use Prim.Native.Nat.{ℕ, ◌-◌, ◌≤◌}
use native.Mathlib.Omega.{arith}
use lib.Dec.{eqb, leb}
use lib.ListN.{length, take}
use borrow.Author.Tests.{eqb-true, ne_eqb, leb-true, leb-false, le-leb, lt-leb}
use Rattle.definition.specs.Letters.{alef_madda, alef_hamza_above, waw_hamza, alef_hamza_below, yeh_hamza, alef_maksura, yeh}
use Rattle.definition.specs.Words.{Word, pick, both, ends_with}
use Rattle.definition.specs.Endings.{suffix_all_alef_maqsura}
use Rattle.definition.specs.Finish.{last, other}
use Rattle.definition.specs.Demand3.{NoHamza}
use Rattle.definition.proofs.Match.{by, clash, ends_split, ends_of}

-- ---- none of 0622 to 0626

pub outside : (c : ℕ) → both (leb alef_madda c) (leb c yeh_hamza) ≡ false → NoHamza c
outside c e = by (leb alef_madda c)
    (λ t. inr (leb-false c yeh_hamza (sym (ap (λ (b : Bool). both b (leb c yeh_hamza)) t) ∙ e)))
    (λ t. inl (leb-false alef_madda c t))

pub none_of_five : (c : ℕ) → (c ≡ alef_madda → ⊥) → (c ≡ alef_hamza_above → ⊥) → (c ≡ waw_hamza → ⊥) → (c ≡ alef_hamza_below → ⊥) → (c ≡ yeh_hamza → ⊥) → NoHamza c
none_of_five c a b d e f = by (leb alef_madda c)
    (λ t. let l = leb-true alef_madda c t in inr (omega arith))
    (λ t. inl (leb-false alef_madda c t))

pub last-stays : (c : ℕ) → NoHamza c → last c ≡ c
unfolding last
last-stays c (inl h) = rw (lt-leb alef_madda c h) refl
last-stays c (inr h) = rw (le-leb alef_madda c (omega arith), lt-leb c yeh_hamza h) refl

not_one : (c k : ℕ) → NoHamza c → alef_madda ≤ k → k ≤ yeh_hamza → eqb c k ≡ false
not_one c k (inl h) a b = ne_eqb c k (λ (e : c ≡ k). omega arith)
not_one c k (inr h) a b = ne_eqb c k (λ (e : c ≡ k). omega arith)

pub other-stays : (c : ℕ) → NoHamza c → other c ≡ c
unfolding other
other-stays c h =
    rw (
      not_one c alef_madda h (omega arith) (omega arith),
      not_one c alef_hamza_above h (omega arith) (omega arith),
      not_one c waw_hamza h (omega arith) (omega arith),
      not_one c alef_hamza_below h (omega arith) (omega arith),
      not_one c yeh_hamza h (omega arith) (omega arith),
    ) refl

-- ---- a last letter other than 0649

pub maqsura-stays : (w : Word) → ends_with w (alef_maksura ∷ []) ≡ false → suffix_all_alef_maqsura w ≡ w
unfolding suffix_all_alef_maqsura
maqsura-stays [] h = refl
maqsura-stays (c ∷ []) h = by (eqb c alef_maksura)
    (λ e. absurd (clash (ends_of (c ∷ []) [] (alef_maksura ∷ []) (ap (λ (x : ℕ). x ∷ []) (eqb-true c alef_maksura e))) h))
    (λ e. ap (λ (b : Bool). pick b yeh c ∷ []) e)
maqsura-stays (c ∷ d ∷ w) h = ap (λ (x : Word). c ∷ x) (maqsura-stays (d ∷ w) (by (ends_with (d ∷ w) (alef_maksura ∷ []))
    (λ e. absurd (clash (ends_of (c ∷ d ∷ w) (c ∷ take (length (d ∷ w) - 1) (d ∷ w)) (alef_maksura ∷ []) (ap (λ (x : Word). c ∷ x) (ends_split (d ∷ w) (alef_maksura ∷ []) e))) h))
    (λ e. e)))
