-- Item 5 on one letter: what its row's class gives; it stays, or it and what it becomes have two bytes. Assumes nothing.
use mathlib.Core.Path.{◌≡◌, refl, sym, ap, ◌∙◌}
use mathlib.Core.Bool.{Bool, true, false}
use mathlib.Core.Logic.{◌⊎◌, inl, inr}
use mathlib.Core.List.{[], ◌∷◌}
use Prim.Native.Nat.{ℕ, zero, suc, ◌≤◌, ◌<◌}
use native.Mathlib.Omega.{arith}
use lib.Dec.{eqb, leb}
use lib.ListN.{length, get_or}
use borrow.Author.Tests.{eqb-true, leb-true, leb-false, le-leb}
use Rattle.utf8.specs.Utf8.{Scalar, Scalars, encode1, encode}
use Rattle.definition.specs.Letters.{hamza, alef, waw, yeh}
use Rattle.definition.specs.Words.{Word, pick, begins_with, ends_with}
use Rattle.definition.specs.Tables.{A_1, A_2}
use Rattle.definition.specs.Search.{row_at, longer, longest}
use Rattle.definition.specs.Finish.{last, other, finish}
use Rattle.definition.proofs.Main.{main_last, main_other}
use Rattle.definition.proofs.Stays.{last-stays, other-stays}
use Rattle.definition.proofs.Finish.{other_last}
use Rattle.definition.proofs.Match.{by}
use Rattle.arabic.specs.Texts.{changed}
use Rattle.utf8.proofs.ReadLetter.{scalar_top}
use Rattle.utf8.proofs.WriteLetter.{size_2}
use Rattle.utf8.specs.Beside.{widths}
use Rattle.utf8.proofs.Beside.{size-wide}

last_in : (c : ℕ) → 0x622 ≤ c → c ≤ 0x626 → last c ≡ 0x621
unfolding last
last_in c h k = rw (le-leb 0x622 c h, le-leb c 0x626 k) refl

-- a letter before 0622 or behind 0626 stays
pub stays-below : (ending : Bool) (c : ℕ) → c < 0x622 → c ≡ changed ending c
stays-below true c h = sym (last-stays c (inl h))
stays-below false c h = sym (other-stays c (inl h))

pub stays_above : (ending : Bool) (c : ℕ) → 0x626 < c → c ≡ changed ending c
stays_above true c h = sym (last-stays c (inr h))
stays_above false c h = sym (other-stays c (inr h))

-- ---- by the rows: k is the class of the row of A_1 or A_2 that the letter is

-- what a class gives for c: one of three letters, and c itself for class 0
abbrev by_class : ℕ → ℕ → ℕ → ℕ → ℕ → ℕ
by_class c x y z k = get_or (c ∷ x ∷ y ∷ z ∷ []) k c

no_class : (c x y z k : ℕ) → (k ≡ 1 → ⊥) → (k ≡ 2 → ⊥) → (k ≡ 3 → ⊥) → by_class c x y z k ≡ c
no_class c x y z zero e f g = refl
no_class c x y z (suc zero) e f g = absurd (e refl)
no_class c x y z (suc (suc zero)) e f g = absurd (f refl)
no_class c x y z (suc (suc (suc zero))) e f g = absurd (g refl)
no_class c x y z (suc (suc (suc (suc k)))) e f g = refl

some_class : (c x k : ℕ) → 1 ≤ k → k < 4 → by_class c x x x k ≡ x
some_class c x zero l u = absurd (omega arith)
some_class c x (suc zero) l u = refl
some_class c x (suc (suc zero)) l u = refl
some_class c x (suc (suc (suc zero))) l u = refl
some_class c x (suc (suc (suc (suc k)))) l u = absurd (omega arith)

-- a letter alone ends with what it begins with
both_ends : (c : ℕ) → longest (ends_with (c ∷ [])) A_1 ≡ longest (begins_with (c ∷ [])) A_1
unfolding A_1 longest longer begins_with ends_with
both_ends c = refl

module _ (c k : ℕ) (h : k ≡ (row_at A_1 (longest (ends_with (c ∷ [])) A_1)).class) where
  last-class : last c ≡ by_class c hamza hamza hamza k
  last-class = main_last c ∙ ap (by_class c hamza hamza hamza) (ap (λ (r : ℕ). (row_at A_1 r).class) (sym (both_ends c)) ∙ sym h)

  pub last_of_class : 1 ≤ k → k < 4 → hamza ≡ last c
  last_of_class l u = sym (last-class ∙ some_class c hamza k l u)

  pub last_of_none : k < 1 → c ≡ last c
  last_of_none u = sym (last-class ∙ no_class c hamza hamza hamza k (λ e. omega (arith, e)) (λ e. omega (arith, e)) (λ e. omega (arith, e)))

module _ (c k : ℕ) (h : k ≡ (row_at A_2 (longest (begins_with (c ∷ [])) A_2)).class) where
  other-class : other c ≡ by_class c alef waw yeh k
  other-class = main_other c ∙ ap (by_class c alef waw yeh) (sym h)

  pub other_of_class : (n : ℕ) → k ≡ n → by_class c alef waw yeh n ≡ other c
  other_of_class n e = sym (other-class ∙ ap (by_class c alef waw yeh) e)

  pub other_of_none : (k ≡ 1 → ⊥) → (k ≡ 2 → ⊥) → (k ≡ 3 → ⊥) → c ≡ other c
  other_of_none e f g = sym (other-class ∙ no_class c alef waw yeh k e f g)

-- ---- what becomes of a letter's bytes

abbrev Kept : ℕ → ℕ → Type 0
Kept c d = (d ≡ c) ⊎ ((0x80 ≤ c) × (c < 0x800) × (0x80 ≤ d) × (d < 0x800))

last-kept : (c : ℕ) → Kept c (last c)
last-kept c =
    by (leb 0x622 c)
    (λ b. by (leb c 0x626)
    (λ d. let h = leb-true 0x622 c b in let k = leb-true c 0x626 d in let e = last_in c h k in inr (omega arith, omega arith, omega arith, omega arith))
    (λ d. inl (last-stays c (inr (leb-false c 0x626 d)))))
    (λ b. inl (last-stays c (inl (leb-false 0x622 c b))))

pick-kept : (c x d y : ℕ) → 0x80 ≤ x → x < 0x800 → 0x80 ≤ y → y < 0x800 → Kept c d → Kept c (pick (eqb c x) y d)
pick-kept c x d y h k l m w = by (eqb c x) (λ b. let e = eqb-true c x b in rw b (inr (omega arith, omega arith, l, m))) (λ b. rw b w)

other-kept : (c : ℕ) → Kept c (other c)
unfolding other
other-kept c =
    pick-kept c 0x622 _ 0x627 (omega arith) (omega arith) (omega arith) (omega arith)
    (pick-kept c 0x623 _ 0x627 (omega arith) (omega arith) (omega arith) (omega arith)
    (pick-kept c 0x624 _ 0x648 (omega arith) (omega arith) (omega arith) (omega arith)
    (pick-kept c 0x625 _ 0x627 (omega arith) (omega arith) (omega arith) (omega arith)
    (pick-kept c 0x626 c 0x64A (omega arith) (omega arith) (omega arith) (omega arith) (inl refl)))))

kept-size : (c d : ℕ) → Kept c d → length (encode1 d) ≡ length (encode1 c)
kept-size c d (inl e) = ap (λ (x : ℕ). length (encode1 x)) e
kept-size c d (inr w) = size_2 d w.2 w.3 ∙ sym (size_2 c w.0 w.1)

kept-scalar : (c d : ℕ) → Kept c d → Scalar c → Scalar d
kept-scalar c d (inl e) s = rw e s
kept-scalar c d (inr w) s = inl (omega arith)

changed-kept : (t : Bool) (c : ℕ) → Kept c (changed t c)
changed-kept true c = last-kept c
changed-kept false c = other-kept c

pub changed-size : (t : Bool) (c : ℕ) → length (encode1 (changed t c)) ≡ length (encode1 c)
changed-size t c = kept-size c (changed t c) (changed-kept t c)

changed-scalar : (t : Bool) (c : ℕ) → Scalar c → Scalar (changed t c)
changed-scalar t c s = kept-scalar c (changed t c) (changed-kept t c) s

pub changed_top : (t : Bool) (c : ℕ) → Scalar c → changed t c < 0x110000
changed_top t c s = scalar_top (changed t c) (changed-scalar t c s)

-- ---- on a word

pub finish-wide : (w : Word) → widths (finish w) ≡ widths w
unfolding finish
finish-wide [] = refl
finish-wide (c ∷ []) = rw (other_last c) (ap (λ (n : ℕ). n ∷ []) (changed-size true c))
finish-wide (c ∷ d ∷ w) = (λ i. changed-size false c i ∷ finish-wide (d ∷ w) i)

pub finish-size : (w : Word) → length (encode (finish w)) ≡ length (encode w)
finish-size w = size-wide (finish w) w (finish-wide w)

pub finish-scalars : (w : Word) → Scalars w → Scalars (finish w)
unfolding finish
finish-scalars [] s = tt
finish-scalars (c ∷ []) s = (rw (other_last c) (changed-scalar true c s.0), tt)
finish-scalars (c ∷ d ∷ w) s = (changed-scalar false c s.0, finish-scalars (d ∷ w) s.1)
