-- A kept letter and its place leave no choice: the listed changes exclude each other. Assumes nothing.
use mathlib.Core.Path.{◌≡◌, refl, sym, ap, ◌∙◌}
use mathlib.Core.Bool.{Bool, true, false, false≢true}
use mathlib.Core.Logic.{◌⊎◌, inl, inr}
use Prim.Native.Nat.{ℕ, ◌<◌}
use lib.Dec.{leb, eqb}
use borrow.Author.Tests.{eqb-true, le-leb, lt-leb}
use Rattle.definition.specs.Letters.{hamza, alef_madda, alef_hamza_above, waw_hamza, alef_hamza_below, yeh_hamza, alef, teh, noon, alef_maksura, yeh}
use Rattle.definition.specs.Words.{pick, both}
use Rattle.definition.specs.Finish.{other}
use Rattle.definition.specs.Demand3.{Change, last_hamza, other_alef, other_waw, other_yeh, last_yeh, fourth_alef, stays}
use Rattle.definition.proofs.Match.{both_0, both_1, by}

abbrev holds : {A : Type 0} → Dec A → Bool
holds (yes a) = true
holds (no n) = false

is_true : {A : Type 0} (d : Dec A) → A → holds d ≡ true
is_true (yes a) x = refl
is_true (no n) x = absurd (n x)

is_false : {A : Type 0} (d : Dec A) → (A → ⊥) → holds d ≡ false
is_false (yes a) n = absurd (n a)
is_false (no m) n = refl

true_is : {A : Type 0} (d : Dec A) → holds d ≡ true → A
true_is (yes a) e = a
true_is (no n) e = absurd (false≢true e)

-- the one letter that can stand for c, by whether it is last, whether item 3 failed, and whether it stands at Step4_Verb's place
abbrev value : Bool → Bool → Bool → ℕ → ℕ
value l t f c =
    pick (both (leb alef_madda c) (leb c yeh_hamza)) (pick l hamza (other c))
    (pick (both l (both t (eqb c alef_maksura))) yeh (pick f alef c))

neither : (l t : Bool) → both l (both t false) ≡ false
neither true true = refl
neither true false = refl
neither false t = refl

module _ (L T F : Type 0) (l : Dec L) (t : Dec T) (f : Dec F) (c d : ℕ) where
  abbrev new : ℕ
  new = value (holds l) (holds t) (holds f) c

  -- where c is the letter k, it is enough to look at k
  at : (k e : ℕ) → c ≡ k → d ≡ e → e ≡ value (holds l) (holds t) (holds f) k → d ≡ new
  at k e q p h = p ∙ h ∙ ap (value (holds l) (holds t) (holds f)) (sym q)

  not_last : (L → ⊥) → (k e : ℕ) → c ≡ k → d ≡ e → e ≡ value false (holds t) (holds f) k → d ≡ new
  not_last n k e q p h = at k e q p (h ∙ ap (λ (b : Bool). value b (holds t) (holds f) k) (sym (is_false l n)))

  at_fourth : F → (k : ℕ) → c ≡ k → d ≡ alef → both (leb alef_madda k) (leb k yeh_hamza) ≡ false → eqb k alef_maksura ≡ false → d ≡ new
  at_fourth x k q p out other = at k alef q p (rw (out, other, neither (holds l) (holds t), is_true f x) refl)

  out : (c < alef_madda) ⊎ (yeh_hamza < c) → both (leb alef_madda c) (leb c yeh_hamza) ≡ false
  out (inl h) = ap (λ (b : Bool). both b (leb c yeh_hamza)) (lt-leb alef_madda c h)
  out (inr h) = by (leb alef_madda c)
      (λ q. ap (λ (b : Bool). both b (leb c yeh_hamza)) q ∙ lt-leb c yeh_hamza h)
      (λ q. ap (λ (b : Bool). both b (leb c yeh_hamza)) q)

  off : (L → T → c ≡ alef_maksura → ⊥) → both (holds l) (both (holds t) (eqb c alef_maksura)) ≡ false
  off m = by (both (holds l) (both (holds t) (eqb c alef_maksura)))
      (λ q.
      let q1 = both_1 (holds l) (both (holds t) (eqb c alef_maksura)) q in
      absurd (m (true_is l (both_0 _ _ q)) (true_is t (both_0 _ _ q1)) (eqb-true c alef_maksura (both_1 (holds t) (eqb c alef_maksura) q1))))
      (λ q. q)

  the_letter : Change L T F c d → d ≡ value (holds l) (holds t) (holds f) c
  unfolding other
  the_letter (last_hamza x a b p) = p ∙ rw (le-leb alef_madda c a, le-leb c yeh_hamza b, is_true l x) refl
  the_letter (other_alef n (inl q) p) = not_last n alef_madda alef q p refl
  the_letter (other_alef n (inr (inl q)) p) = not_last n alef_hamza_above alef q p refl
  the_letter (other_alef n (inr (inr q)) p) = not_last n alef_hamza_below alef q p refl
  the_letter (other_waw n q p) = not_last n waw_hamza _ q p refl
  the_letter (other_yeh n q p) = not_last n yeh_hamza yeh q p refl
  the_letter (last_yeh x z q p) = at alef_maksura yeh q p (rw (is_true l x, is_true t z) refl)
  the_letter (fourth_alef x (inl q) p) = at_fourth x teh q p refl refl
  the_letter (fourth_alef x (inr (inl q)) p) = at_fourth x noon q p refl refl
  the_letter (fourth_alef x (inr (inr q)) p) = at_fourth x yeh q p refl refl
  the_letter (stays m n o p) =
      p ∙ sym (ap (λ (b : Bool). pick b (pick (holds l) hamza (other c)) (pick (both (holds l) (both (holds t) (eqb c alef_maksura))) yeh (pick (holds f) alef c))) (out o)
      ∙ ap (λ (b : Bool). pick b yeh (pick (holds f) alef c)) (off m)
      ∙ ap (λ (b : Bool). pick b alef c) (is_false f n))

pub change-one : (L T F : Type 0) → Dec L → Dec T → Dec F → (c d e : ℕ) → Change L T F c d → Change L T F c e → d ≡ e
change-one L T F l t f c d e x y = the_letter L T F l t f c d x ∙ sym (the_letter L T F l t f c e y)
