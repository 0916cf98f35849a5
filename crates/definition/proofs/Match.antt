-- Tests and their two answers; a key at the front or at the end splits the word. Assumes nothing.
use mathlib.Core.Path.{◌≡◌, refl, sym, ap, ◌∙◌}
use mathlib.Core.Bool.{Bool, true, false, false≢true, not}
use mathlib.Core.List.{[], ◌∷◌, ◌++◌}
use Prim.Native.Nat.{ℕ, ◌+◌, ◌-◌, ◌≤◌, ◌<◌}
use lib.Dec.{eqb, leb}
use lib.ListN.{length, take, drop, take-append-drop, length-append}
use lib.Seq.{take-append_seam, drop_at}
use native.Mathlib.Omega.{arith}
use borrow.Author.Tests.{eqb-true, eq-eqb, leb-true, leb-false}
use Rattle.definition.specs.Words.{Word, pick, both, same, begins_with, ends_with}

pub both_0 : (a b : Bool) → both a b ≡ true → a ≡ true
both_0 true b e = refl
both_0 false b e = absurd (false≢true e)

pub both_1 : (a b : Bool) → both a b ≡ true → b ≡ true
both_1 true b e = e
both_1 false b e = absurd (false≢true e)

abbrev pub either : Bool → Bool → Bool
either a b = pick a true b

pub either_right : (a b : Bool) → b ≡ true → either a b ≡ true
either_right true b e = refl
either_right false b e = e

pub either_not : (a b : Bool) → a ≡ true → either (not a) b ≡ true → b ≡ true
either_not true b p e = e
either_not false b p e = absurd (false≢true p)

pub by {κ} : {B : Type κ} (b : Bool) → (b ≡ true → B) → (b ≡ false → B) → B
by true f g = f refl
by false f g = g refl

pub by_le {κ} : {B : Type κ} (m n : ℕ) → (m ≤ n → B) → (n < m → B) → B
by_le m n f g = by (leb m n) (λ e. f (leb-true m n e)) (λ e. g (leb-false m n e))

pub clash : {b : Bool} → b ≡ true → b ≡ false → ⊥
clash p q = false≢true (sym q ∙ p)

pub empty : (w : Word) → length w ≡ 0 → w ≡ []
empty [] e = refl
empty (c ∷ w) e = absurd (omega arith)

pub same_eq : (x y : Word) → same x y ≡ true → x ≡ y
unfolding same
same_eq [] [] e = refl
same_eq [] (y ∷ ys) e = absurd (false≢true e)
same_eq (x ∷ xs) [] e = absurd (false≢true e)
same_eq (x ∷ xs) (y ∷ ys) e =
    let h : x ≡ y = eqb-true x y (both_0 (eqb x y) (same xs ys) e) in
    let t : xs ≡ ys = same_eq xs ys (both_1 (eqb x y) (same xs ys) e) in
    λ i. h i ∷ t i

pub same_refl : (w : Word) → same w w ≡ true
unfolding same
same_refl [] = refl
same_refl (c ∷ w) = rw (eq-eqb c c refl) (same_refl w)

pub begins_split : (w key : Word) → begins_with w key ≡ true → w ≡ key ++ drop (length key) w
unfolding begins_with
begins_split w key e = sym (take-append-drop (length key) w) ∙ ap (λ (x : Word). x ++ drop (length key) w) (same_eq (take (length key) w) key e)

pub ends_split : (w key : Word) → ends_with w key ≡ true → w ≡ take (length w - length key) w ++ key
unfolding ends_with
ends_split w key e =
    sym (take-append-drop (length w - length key) w) ∙ ap (λ (x : Word). take (length w - length key) w ++ x) (same_eq (drop (length w - length key) w) key e)

pub begins_of : (w key r : Word) → w ≡ key ++ r → begins_with w key ≡ true
unfolding begins_with
begins_of w key r e = ap (λ (x : Word). same x key) (ap (take (length key)) e ∙ take-append_seam key r) ∙ same_refl key

pub ends_of : (w a key : Word) → w ≡ a ++ key → ends_with w key ≡ true
unfolding ends_with
ends_of w a key e =
    let l : length w ≡ length a + length key = ap length e ∙ length-append a key in
    let m : length a ≡ length w - length key = omega arith in
    ap (λ (x : Word). same x key) (ap (drop (length w - length key)) e ∙ drop_at a key (length w - length key) m) ∙ same_refl key
