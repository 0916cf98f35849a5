-- The search's answer is the only row that matches and is longest, in every table whose rows differ; all 21 are such tables. Assumes nothing.
use mathlib.Core.Path.{◌≡◌, refl, sym, ap, ◌∙◌}
use mathlib.Core.Bool.{Bool, true, false≢true, not}
use mathlib.Core.Logic.{inl, inr}
use mathlib.Core.List.{[], ◌∷◌}
use Prim.Native.Nat.{ℕ, zero, suc, ◌-◌, ◌≤◌, ◌<◌}
use native.Mathlib.Omega.{arith}
use lib.Dec.{leb}
use lib.ListN.{length, take, drop}
use borrow.Author.Tests.{leb-true, le-leb, lt-leb, not-true}
use Rattle.definition.specs.Words.{Word, pick, every, same, begins_with, ends_with}
use Rattle.definition.specs.Tables.{Row, Table, A_0, A_1, A_2, A_3, A_4, A_5, A_6, A_7, A_8, A_9, A_11, A_12, A_13, A_14, A_15, A_16, A_17, A_18, A_19, A_20, A_21}
use Rattle.definition.specs.Search.{row_at, longer, longest}
use Rattle.definition.specs.Facts.{Longest, LongestMatch, distinct, all_tables}
use Rattle.definition.proofs.Match.{both_0, both_1, by, same_eq, same_refl}
use Rattle.definition.proofs.Found.{Found, all_at, longest-found, longest-longest, no_letters}

distinct_tail : (k : Row) (t : Table) → distinct (k ∷ t) ≡ true → distinct t ≡ true
distinct_tail k t d = both_1 (every (λ (j : Row). not (same k.letters j.letters)) t) (distinct t) (both_1 (leb 1 (length k.letters)) _ d)

pub some_letter : (t : Table) → distinct t ≡ true → (r : ℕ) → r < length t → 1 ≤ length (row_at t r).letters
some_letter [] d r h = absurd (omega arith)
some_letter (k ∷ t) d zero h = leb-true 1 (length k.letters) (both_0 _ _ d)
some_letter (k ∷ t) d (suc r) h = some_letter t (distinct_tail k t d) r (omega arith)

other_row : (k : Row) (t : Table) → distinct (k ∷ t) ≡ true → (r : ℕ) → r < length t → k.letters ≡ (row_at t r).letters → ⊥
other_row k t d r h e =
    let a = not-true (same k.letters (row_at t r).letters)
    (all_at (λ (j : Row). not (same k.letters j.letters)) t (both_0 _ _ (both_1 (leb 1 (length k.letters)) _ d)) r h) in
    false≢true (sym a ∙ ap (λ (x : Word). same x (row_at t r).letters) e ∙ same_refl (row_at t r).letters)

one-row : (t : Table) → distinct t ≡ true → (r s : ℕ) → r < length t → s < length t → (row_at t r).letters ≡ (row_at t s).letters → r ≡ s
one-row [] d r s h g e = absurd (omega arith)
one-row (k ∷ t) d zero zero h g e = refl
one-row (k ∷ t) d zero (suc s) h g e = absurd (other_row k t d s (omega arith) e)
one-row (k ∷ t) d (suc r) zero h g e = absurd (other_row k t d r (omega arith) (sym e))
one-row (k ∷ t) d (suc r) (suc s) h g e =
    ap suc (one-row t (distinct_tail k t d) r s (omega arith) (omega arith) e)

-- of two words that match, equally long, both are the same
abbrev Rigid : (Word → Bool) → Type 0
Rigid match = (a b : Word) → match a ≡ true → match b ≡ true → length a ≡ length b → a ≡ b

pub rigid_front : (w : Word) → Rigid (begins_with w)
unfolding begins_with
rigid_front w a b p q e = sym (same_eq (take (length a) w) a p) ∙ ap (λ (n : ℕ). take n w) e ∙ same_eq (take (length b) w) b q

pub rigid_end : (w : Word) → Rigid (ends_with w)
unfolding ends_with
rigid_end w a b p q e = sym (same_eq (drop (length w - length a) w) a p) ∙ ap (λ (n : ℕ). drop (length w - n) w) e ∙ same_eq (drop (length w - length b) w) b q

module _ (match : Word → Bool) (t : Table) (d : distinct t ≡ true) where
  pub longest_is : Rigid match → (r : ℕ) → r < length t → match (row_at t r).letters ≡ true → Longest match t r → longest match t ≡ r
  longest_is rigid r h m l = go (longest-found match t)
    where
      s : ℕ
      s = longest match t

      up : length (row_at t r).letters ≤ length (row_at t s).letters
      up = longest-longest match t r h m

      go : Found match t s → s ≡ r
      go (inl f) = let low = l s f.0 f.1 in
          one-row t d s r f.0 h (rigid (row_at t s).letters (row_at t r).letters f.1 m (omega (arith, up)))
      go (inr f) =
          let z : length (row_at t s).letters ≡ 0 = ap (λ (i : ℕ). length (row_at t i).letters) f ∙ no_letters t in
          absurd (omega (arith, up, some_letter t d r h))

-- with no row that matches, the search answers the number of rows
pub longest_none : (match : Word → Bool) (t : Table) → ((r : ℕ) → r < length t → match (row_at t r).letters ≡ true → ⊥) → longest match t ≡ length t
longest_none match t h = go (longest-found match t)
  where
    go : Found match t (longest match t) → longest match t ≡ length t
    go (inl f) = absurd (h (longest match t) f.0 f.1)
    go (inr f) = f

-- so the longest match is the one that the search answers
pub longest_only : (match : Word → Bool) (t : Table) → distinct t ≡ true → Rigid match → (r : ℕ) → LongestMatch match t r → r ≡ longest match t
longest_only match t d rigid r (inl l) = sym (longest_is match t d rigid r l.0 l.1 l.2)
longest_only match t d rigid r (inr l) = l.0 ∙ sym (longest_none match t l.1)

-- a row that matches, is longer than the rows before it that match, and no shorter than any that matches, is the one that the search answers
pub longest_at : (match : Word → Bool) (t : Table) (r : ℕ) → r < length t → match (row_at t r).letters ≡ true
    → ((k : ℕ) → k < r → match (row_at t k).letters ≡ true → length (row_at t k).letters < length (row_at t r).letters) → Longest match t r → longest match t ≡ r
unfolding longest longer
longest_at match [] r h m a l = absurd (omega arith)
longest_at match (k ∷ t) zero h m a l =
    ap (λ (b : Bool). longer b k t (longest match t)) m
    ∙ ap (λ (b : Bool). pick b 0 (suc (longest match t))) (le-leb (length (row_at t (longest match t)).letters) (length k.letters) (behind (longest-found match t)))
  where
    behind : Found match t (longest match t) → length (row_at t (longest match t)).letters ≤ length k.letters
    behind (inl f) = l (suc (longest match t)) (omega (arith, f.0)) f.1
    behind (inr f) = let z : length (row_at t (longest match t)).letters ≡ 0 = ap (λ (i : ℕ). length (row_at t i).letters) f ∙ no_letters t in omega arith
longest_at match (k ∷ t) (suc r) h m a l =
    let e : longest match t ≡ r = longest_at match t r (omega arith) m (λ i g. a (suc i) (omega arith)) (λ i g. l (suc i) (omega arith)) in
    ap (longer (match k.letters) k t) e
    ∙ by (match k.letters)
    (λ b. ap (λ (x : Bool). longer x k t r) b ∙ ap (λ (x : Bool). pick x 0 (suc r)) (lt-leb (length (row_at t r).letters) (length k.letters) (a 0 (omega arith) b)))
    (λ b. ap (λ (x : Bool). longer x k t r) b)

-- all tables pass the test
pub distinct-all : every distinct all_tables ≡ true
unfolding A_0 A_1 A_2 A_3 A_4 A_5 A_6 A_7 A_8 A_9 A_11 A_12 A_13 A_14 A_15 A_16 A_17 A_18 A_19 A_20 A_21 same
distinct-all = refl
