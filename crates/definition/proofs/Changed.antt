-- The stem letter by letter. Assumes nothing.
use mathlib.Core.Path.{◌≡◌, refl, sym, ap, ◌∙◌, subst}
use mathlib.Core.Bool.{Bool, true, false, false≢true}
use mathlib.Core.Logic.{◌⊎◌, inl, inr}
use mathlib.Core.List.{List, [], ◌∷◌, ◌++◌}
use Prim.Native.Nat.{ℕ, zero, suc, ◌+◌, ◌-◌, ◌≤◌, ◌<◌}
use native.Mathlib.Omega.{arith}
use lib.Dec.{leb, ltb, eqb}
use lib.ListN.{length, get_or, set, length-append, get_or-append}
use lib.Seq.{get_or-append-add, get_or-set_same, get_or-set_other}
use borrow.Author.Tests.{leb-true, eqb-true, eqb-false, ltb-true, ltb-false}
use Rattle.definition.specs.Letters.{hamza, alef_madda, alef_hamza_above, waw_hamza, alef_hamza_below, yeh_hamza, alef, alef_maksura, yeh}
use Rattle.definition.specs.Words.{Word, pick, both}
use Rattle.definition.specs.Tries.{Try, done, failed, Failed}
use Rattle.definition.specs.Endings.{Cutting, suffix_all_alef_maqsura, maqsura_if_failed}
use Rattle.definition.specs.Finish.{last, other, finish}
use Rattle.definition.specs.Fronts.{Applied, prefix_step4_verb}
use Rattle.definition.specs.Demand3.{is_applied, place, NoHamza, Change, last_hamza, other_alef, other_waw, other_yeh, last_yeh, fourth_alef, stays}
use Rattle.definition.proofs.Match.{both_0, both_1, by}
use Rattle.definition.proofs.Stays.{outside, none_of_five}
use Rattle.definition.proofs.Finish.{other_last}
use Rattle.definition.proofs.FrontRows.{Verbal}
use Rattle.definition.proofs.Fronting.{Fourth, fourth}
use Rattle.definition.proofs.Lengths.{maqsura_if_length, fourth_length}

-- ---- item 3's change of the last letter
data Third (last third : Type 0) (c d : ℕ) : Type 0 where
  left : (last → third → c ≡ alef_maksura → ⊥) → d ≡ c → Third last third c d
  dotted : last → third → c ≡ alef_maksura → d ≡ yeh → Third last third c d

maqsura_at : (t : Word) (i : ℕ) → i < length t → Third (suc i ≡ length t) (Unit {0}) (get_or t i 0) (get_or (suffix_all_alef_maqsura t) i 0)
unfolding suffix_all_alef_maqsura
maqsura_at [] i h = absurd (omega arith)
maqsura_at (c ∷ []) zero h = by (eqb c alef_maksura)
    (λ t. dotted refl tt (eqb-true c alef_maksura t) (rw t))
    (λ t. left (λ l z. eqb-false c alef_maksura t) (rw t))
maqsura_at (c ∷ []) (suc i) h = absurd (omega arith)
maqsura_at (c ∷ d ∷ t) zero h = left (λ l z e. omega arith) refl
maqsura_at (c ∷ d ∷ t) (suc i) h = go (maqsura_at (d ∷ t) i (omega arith))
  where
    go : Third (suc i ≡ length (d ∷ t)) (Unit {0}) (get_or (d ∷ t) i 0) (get_or (suffix_all_alef_maqsura (d ∷ t)) i 0)
        → Third (suc (suc i) ≡ length (c ∷ d ∷ t)) (Unit {0}) (get_or (d ∷ t) i 0) (get_or (suffix_all_alef_maqsura (d ∷ t)) i 0)
    go (left n e) = left (λ l. n (omega arith)) e
    go (dotted l z e q) = dotted (ap suc l) z e q

maqsura_if_at : (y : Try Cutting) (t : Word) (i : ℕ) → i < length t → Third (suc i ≡ length t) (Failed y) (get_or t i 0) (get_or (maqsura_if_failed y t) i 0)
unfolding maqsura_if_failed
maqsura_if_at (done v) t i h = left (λ l z. absurd z) refl
maqsura_if_at (failed v) t i h = maqsura_at t i h

-- ---- with Step4_Verb's change: what may have happened to a letter before item 5
data Near (last third fourth : Type 0) (c d : ℕ) : Type 0 where
  same : (last → third → c ≡ alef_maksura → ⊥) → (fourth → ⊥) → d ≡ c → Near last third fourth c d
  maqsura : last → third → c ≡ alef_maksura → d ≡ yeh → Near last third fourth c d
  verbal : fourth → Verbal c → d ≡ alef → Near last third fourth c d

near : (L T F : Type 0) (c d : ℕ) → (F → ⊥) → Third L T c d → Near L T F c d
near L T F c d n (left h e) = same h n e
near L T F c d n (dotted l z e q) = maqsura l z e q

-- a letter that is not the last is not changed by item 3
third_not_last : (L T : Type 0) (c d : ℕ) → (L → ⊥) → Third L T c d → d ≡ c
third_not_last L T c d n (left h e) = e
third_not_last L T c d n (dotted l z e q) = absurd (n l)

module _ (y : Try Cutting) (ms : List Applied) (run : Word) (four : is_applied prefix_step4_verb ms ≡ true → Fourth ms (maqsura_if_failed y run)) where
  abbrev At : ℕ → Type 0
  At j = (is_applied prefix_step4_verb ms ≡ true) × (j ≡ place ms)

  run_at : (j : ℕ) → j < length run → Near (suc j ≡ length run) (Failed y) (At j) (get_or run j 0) (get_or (fourth ms (maqsura_if_failed y run)) j 0)
  unfolding fourth
  run_at j h = go (is_applied prefix_step4_verb ms) refl
    where
      hit : is_applied prefix_step4_verb ms ≡ true → j ≡ place ms
          → Near (suc j ≡ length run) (Failed y) (At j) (get_or run j 0) (get_or (set (maqsura_if_failed y run) (place ms) alef) j 0)
      hit e q =
          let fo = four e in
          let l = maqsura_if_length y run in
          let ea = fo.early in
          let s : get_or (maqsura_if_failed y run) j 0 ≡ get_or run j 0 =
          third_not_last (suc j ≡ length run) (Failed y) (get_or run j 0) (get_or (maqsura_if_failed y run) j 0) (λ n. omega arith) (maqsura_if_at y run j h) in
          let p : get_or (maqsura_if_failed y run) (place ms) 0 ≡ get_or run j 0 = ap (λ (i : ℕ). get_or (maqsura_if_failed y run) i 0) (sym q) ∙ s in
          verbal (e, q) (subst Verbal p fo.letter)
          (ap (λ (i : ℕ). get_or (set (maqsura_if_failed y run) (place ms) alef) i 0) q ∙ get_or-set_same (maqsura_if_failed y run) (place ms) alef 0 (omega arith))

      miss : (j ≡ place ms → ⊥) → Near (suc j ≡ length run) (Failed y) (At j) (get_or run j 0) (get_or (set (maqsura_if_failed y run) (place ms) alef) j 0)
      miss q = rw (get_or-set_other (maqsura_if_failed y run) (place ms) j alef 0 q)
          (near (suc j ≡ length run) (Failed y) (At j) (get_or run j 0) (get_or (maqsura_if_failed y run) j 0) (λ a. q a.1) (maqsura_if_at y run j h))

      go : (b : Bool) → is_applied prefix_step4_verb ms ≡ b
          → Near (suc j ≡ length run) (Failed y) (At j) (get_or run j 0) (get_or (pick b (set (maqsura_if_failed y run) (place ms) alef) (maqsura_if_failed y run)) j 0)
      go true e = by (eqb j (place ms)) (λ t. hit e (eqb-true j (place ms) t)) (λ t. miss (eqb-false j (place ms) t))
      go false e =
          near (suc j ≡ length run) (Failed y) (At j) (get_or run j 0) (get_or (maqsura_if_failed y run) j 0) (λ a. false≢true (sym e ∙ a.0)) (maqsura_if_at y run j h)

  -- the head letter stands before the run and has the run's letters behind it
  module _ (head_letter : Word) (some : length head_letter ≤ length run) where
    abbrev AtI : ℕ → Type 0
    AtI i = (is_applied prefix_step4_verb ms ≡ true) × (i ≡ length head_letter + place ms)

    abbrev Text : Word
    Text = head_letter ++ fourth ms (maqsura_if_failed y run)

    text_at : (i : ℕ) → i < length (head_letter ++ run) → Near (suc i ≡ length (head_letter ++ run)) (Failed y) (AtI i) (get_or (head_letter ++ run) i 0) (get_or Text i 0)
    text_at i h = by (ltb i (length head_letter))
        (λ t.
        let l = ltb-true i (length head_letter) t in
        let la = length-append head_letter run in
        same (λ e z q. omega arith) (λ a. let b = a.1 in omega arith)
        (get_or-append head_letter (fourth ms (maqsura_if_failed y run)) 0 i l ∙ sym (get_or-append head_letter run 0 i l)))
        (λ t.
        let l = ltb-false i (length head_letter) t in
        let j : ℕ = i - length head_letter in
        let q : i ≡ length head_letter + j = omega arith in
        let la = length-append head_letter run in
        subst (λ (x : ℕ). Near (suc x ≡ length (head_letter ++ run)) (Failed y) (AtI x) (get_or (head_letter ++ run) x 0) (get_or Text x 0)) (sym q) (shift j (run_at j (omega arith))))
      where
        shift : (j : ℕ) → Near (suc j ≡ length run) (Failed y) (At j) (get_or run j 0) (get_or (fourth ms (maqsura_if_failed y run)) j 0)
            → Near (suc (length head_letter + j) ≡ length (head_letter ++ run)) (Failed y) (AtI (length head_letter + j)) (get_or (head_letter ++ run) (length head_letter + j) 0) (get_or Text (length head_letter + j) 0)
        shift j (same m f e) =
            let la = length-append head_letter run in
            let c : get_or (head_letter ++ run) (length head_letter + j) 0 ≡ get_or run j 0 = get_or-append-add head_letter run j 0 in
            same (λ l z q. m (omega arith) z (sym c ∙ q)) (λ a. f (a.0, let b = a.1 in omega arith))
            (get_or-append-add head_letter (fourth ms (maqsura_if_failed y run)) j 0 ∙ e ∙ sym c)
        shift j (maqsura l z e q) = maqsura (omega (arith, length-append head_letter run)) z (get_or-append-add head_letter run j 0 ∙ e) (get_or-append-add head_letter (fourth ms (maqsura_if_failed y run)) j 0 ∙ q)
        shift j (verbal x e q) =
            verbal (x.0, ap (λ (i : ℕ). length head_letter + i) x.1) (subst Verbal (sym (get_or-append-add head_letter run j 0)) e)
            (get_or-append-add head_letter (fourth ms (maqsura_if_failed y run)) j 0 ∙ q)

-- ---- item 5
finish_at : (t : Word) (i : ℕ) → i < length t
    → ((suc i ≡ length t) × (get_or (finish t) i 0 ≡ last (get_or t i 0))) ⊎ ((suc i ≡ length t → ⊥) × (get_or (finish t) i 0 ≡ other (get_or t i 0)))
unfolding finish
finish_at [] i h = absurd (omega arith)
finish_at (c ∷ []) zero h = inl (refl, other_last c)
finish_at (c ∷ []) (suc i) h = absurd (omega arith)
finish_at (c ∷ d ∷ t) zero h = inr ((λ e. omega arith), refl)
finish_at (c ∷ d ∷ t) (suc i) h = go (finish_at (d ∷ t) i (omega arith))
  where
    go : ((suc i ≡ length (d ∷ t)) × (get_or (finish (d ∷ t)) i 0 ≡ last (get_or (d ∷ t) i 0))) ⊎ ((suc i ≡ length (d ∷ t) → ⊥) × (get_or (finish (d ∷ t)) i 0 ≡ other (get_or (d ∷ t) i 0)))
        → ((suc (suc i) ≡ length (c ∷ d ∷ t)) × (get_or (finish (d ∷ t)) i 0 ≡ last (get_or (d ∷ t) i 0))) ⊎ ((suc (suc i) ≡ length (c ∷ d ∷ t) → ⊥) × (get_or (finish (d ∷ t)) i 0 ≡ other (get_or (d ∷ t) i 0)))
    go (inl a) = inl (ap suc a.0, a.1)
    go (inr a) = inr ((λ e. a.0 (omega arith)), a.1)

module _ (L T F : Type 0) (c d e : ℕ) where
  at_last : L → e ≡ last d → Near L T F c d → Change L T F c e
  unfolding last
  at_last l q (same m f p) = by (both (leb alef_madda d) (leb d yeh_hamza))
      (λ t. last_hamza l (rw p at (leb-true alef_madda d (both_0 (leb alef_madda d) (leb d yeh_hamza) t))) (rw p at (leb-true d yeh_hamza (both_1 (leb alef_madda d) (leb d yeh_hamza) t)))
      (q ∙ ap (λ (b : Bool). pick b hamza d) t))
      (λ t. stays m f (subst NoHamza p (outside d t)) (q ∙ ap (λ (b : Bool). pick b hamza d) t ∙ p))
  at_last l q (maqsura x z p r) = last_yeh x z p (q ∙ ap last r)
  at_last l q (verbal x p r) = fourth_alef x p (q ∙ ap last r)

  at_other : (L → ⊥) → e ≡ other d → Near L T F c d → Change L T F c e
  unfolding other
  at_other l q (same m f p) =
      by (eqb d alef_madda) (λ t. other_alef l (inl (sym p ∙ eqb-true d alef_madda t)) (q ∙ rw t))
      (λ t2. by (eqb d alef_hamza_above) (λ t. other_alef l (inr (inl (sym p ∙ eqb-true d alef_hamza_above t))) (q ∙ rw (t2, t)))
      (λ t3. by (eqb d waw_hamza) (λ t. other_waw l (sym p ∙ eqb-true d waw_hamza t) (q ∙ rw (t2, t3, t)))
      (λ t4. by (eqb d alef_hamza_below) (λ t. other_alef l (inr (inr (sym p ∙ eqb-true d alef_hamza_below t))) (q ∙ rw (t2, t3, t4, t)))
      (λ t5. by (eqb d yeh_hamza) (λ t. other_yeh l (sym p ∙ eqb-true d yeh_hamza t) (q ∙ rw (t2, t3, t4, t5, t)))
      (λ t6. stays m f
      (subst NoHamza p (none_of_five d (eqb-false d alef_madda t2) (eqb-false d alef_hamza_above t3) (eqb-false d waw_hamza t4) (eqb-false d alef_hamza_below t5) (eqb-false d yeh_hamza t6)))
      (q ∙ rw (t2, t3, t4, t5, t6) p))))))
  at_other l q (maqsura x z p r) = absurd (l x)
  at_other l q (verbal x p r) = fourth_alef x p (q ∙ ap other r)

-- ---- together
pub changed : (y : Try Cutting) (ms : List Applied) (run head_letter : Word) → (is_applied prefix_step4_verb ms ≡ true → Fourth ms (maqsura_if_failed y run))
    → length head_letter ≤ length run → (i : ℕ) → i < length (head_letter ++ run)
    → Change (suc i ≡ length (head_letter ++ run)) (Failed y) ((is_applied prefix_step4_verb ms ≡ true) × (i ≡ length head_letter + place ms)) (get_or (head_letter ++ run) i 0) (get_or (finish (head_letter ++ fourth ms (maqsura_if_failed y run))) i 0)
changed y ms run head_letter four some i h =
    go (finish_at t i (omega (arith, lt))) (text_at y ms run four head_letter some i h)
  where
    t : Word
    t = head_letter ++ fourth ms (maqsura_if_failed y run)

    lt : length (head_letter ++ fourth ms (maqsura_if_failed y run)) ≡ length (head_letter ++ run)
    lt = length-append head_letter (fourth ms (maqsura_if_failed y run)) ∙ ap (λ (m : ℕ). length head_letter + m) (fourth_length ms (maqsura_if_failed y run) ∙ maqsura_if_length y run) ∙ sym (length-append head_letter run)

    L : Type 0
    L = suc i ≡ length (head_letter ++ run)

    go : ((suc i ≡ length t) × (get_or (finish t) i 0 ≡ last (get_or t i 0))) ⊎ ((suc i ≡ length t → ⊥) × (get_or (finish t) i 0 ≡ other (get_or t i 0)))
        → Near L (Failed y) ((is_applied prefix_step4_verb ms ≡ true) × (i ≡ length head_letter + place ms)) (get_or (head_letter ++ run) i 0) (get_or t i 0)
        → Change L (Failed y) ((is_applied prefix_step4_verb ms ≡ true) × (i ≡ length head_letter + place ms)) (get_or (head_letter ++ run) i 0) (get_or (finish t) i 0)
    go (inl a) n = at_last L (Failed y) _ (get_or (head_letter ++ run) i 0) (get_or t i 0) (get_or (finish t) i 0) (a.0 ∙ lt) a.1 n
    go (inr a) n = at_other L (Failed y) _ (get_or (head_letter ++ run) i 0) (get_or t i 0) (get_or (finish t) i 0) (λ e. a.0 (e ∙ sym lt)) a.1 n
