-- Where a word ends in a key, a step whose rows that fit the key all have small guards takes a row. Assumes nothing.
use mathlib.Core.Path.{◌≡◌, refl, sym, ap, ◌∙◌}
use mathlib.Core.Bool.{Bool, true, false, false≢true, not}
use mathlib.Core.Logic.{inl, inr}
use mathlib.Core.List.{List, ◌++◌, append_assoc}
use mathlib.Core.Option.{none, some}
use Prim.Native.Nat.{ℕ, zero, suc, ◌+◌, ◌-◌, ◌≤◌, ◌<◌}
use native.Mathlib.Omega.{arith}
use lib.Dec.{leb, ltb}
use lib.ListN.{length, take, drop, length-drop}
use lib.Seq.{drop-drop}
use borrow.Author.Tests.{leb-true, leb-false, le-leb, ltb-true}
use Rattle.definition.specs.Words.{Word, pick, both, every, same, ends_with}
use Rattle.definition.specs.Tables.{Row}
use Rattle.definition.specs.Search.{row_at, longest, Rule, least_letters, met, taken}
use Rattle.definition.proofs.Match.{both_0, both_1, either, either_right, either_not, by, same_eq, same_refl, ends_split, ends_of}
use Rattle.definition.proofs.Found.{Found, all_at, longest-found, longest-longest, no_letters}

ends-ends : (w key k : Word) → ends_with w key ≡ true → ends_with key k ≡ true → ends_with w k ≡ true
ends-ends w key k p q =
    let a : Word = take (length w - length key) w in
    let b : Word = take (length key - length k) key in
    ends_of w (a ++ b) k (ends_split w key p ∙ ap (λ (x : Word). a ++ x) (ends_split key k q) ∙ sym (append_assoc a b k))

-- of two ends of one word the shorter is an end of the longer
ends_shorter : (w key k : Word) → ends_with w key ≡ true → ends_with w k ≡ true → length k ≤ length key → ends_with key k ≡ true
unfolding ends_with
ends_shorter w key k p q h =
    let a : drop (length w - length key) w ≡ key = same_eq (drop (length w - length key) w) key p in
    let b : drop (length w - length k) w ≡ k = same_eq (drop (length w - length k) w) k q in
    let la : length w - (length w - length key) ≡ length key = sym (length-drop (length w - length key) w) ∙ ap length a in
    let lb : length w - (length w - length k) ≡ length k = sym (length-drop (length w - length k) w) ∙ ap length b in
    let s : length w - length key + (length key - length k) ≡ length w - length k = omega arith in
    let c : drop (length key - length k) key ≡ k =
    ap (drop (length key - length k)) (sym a) ∙ drop-drop (length key - length k) (length w - length key) w ∙ ap (λ (i : ℕ). drop i w) s ∙ b in
    ap (λ (x : Word). same x k) c ∙ same_refl k

-- the row and the key can both be ends of one word
abbrev pub compatible : Word → Word → Bool
compatible key k = either (ends_with key k) (ends_with k key)

-- each row of the rule that fits the key has a letter, a class and a guard of at most bound
abbrev cover_row : Rule → Word → ℕ → Row → Bool
cover_row s key bound k =
    either (not (compatible key k.letters)) (both (leb 1 (length k.letters)) (both (leb 1 k.class) (leb (least_letters s.guards k.class) bound)))

-- and a row is an end of the key
abbrev pub covers : Rule → Word → ℕ → Bool
covers s key bound = both (ltb (longest (ends_with key) s.table) (length s.table)) (every (cover_row s key bound) s.table)

pub fits : (w key k : Word) → ends_with w key ≡ true → ends_with w k ≡ true → compatible key k ≡ true
fits w key k p q = by (leb (length k) (length key))
    (λ t. ap (λ (b : Bool). either b (ends_with k key)) (ends_shorter w key k p q (leb-true (length k) (length key) t)))
    (λ t. either_right (ends_with key k) (ends_with k key) (ends_shorter w k key q p (omega (arith, leb-false (length k) (length key) t))))

met_by : (least : List ℕ) (k n : ℕ) → 1 ≤ k → least_letters least k ≤ n → met least k n ≡ true
unfolding met
met_by least zero n h g = absurd (omega arith)
met_by least (suc k) n h g = le-leb (least_letters least (suc k)) n g

taken_none : (match : Word → Bool) (s : Rule) (n : ℕ) → taken match s n ≡ none → met s.guards (row_at s.table (longest match s.table)).class n ≡ false
unfolding taken
taken_none match s n e = go (met s.guards (row_at s.table (longest match s.table)).class n) e
  where
    go : (b : Bool) → pick b (some (longest match s.table)) none ≡ none → b ≡ false
    go true q = let z : ◌≡◌ {A = ℕ} 0 1 = cc in absurd (omega arith)
    go false q = refl

module _ (s : Rule) (w key : Word) (bound n : ℕ) where
  pub cover : covers s key bound ≡ true → ends_with w key ≡ true → bound ≤ n → taken (ends_with w) s n ≡ none → ⊥
  cover c p h q = go (longest-found (ends_with key) s.table) (longest-found (ends_with w) s.table)
    where
      rows : every (cover_row s key bound) s.table ≡ true
      rows = both_1 (ltb (longest (ends_with key) s.table) (length s.table)) (every (cover_row s key bound) s.table) c

      row : (r : ℕ) → r < length s.table → ends_with w (row_at s.table r).letters ≡ true
          → both (leb 1 (length (row_at s.table r).letters)) (both (leb 1 (row_at s.table r).class) (leb (least_letters s.guards (row_at s.table r).class) bound)) ≡ true
      row r l m = either_not (compatible key (row_at s.table r).letters) _ (fits w key (row_at s.table r).letters p m) (all_at (cover_row s key bound) s.table rows r l)

      go : Found (ends_with key) s.table (longest (ends_with key) s.table) → Found (ends_with w) s.table (longest (ends_with w) s.table) → ⊥
      go (inr f) g = let a = ltb-true (longest (ends_with key) s.table) (length s.table) (both_0 _ _ c) in omega arith
      go (inl f) (inr g) =
          let i : ℕ = longest (ends_with key) s.table in
          let m = ends-ends w key (row_at s.table i).letters p f.1 in
          let a = longest-longest (ends_with w) s.table i f.0 m in
          let z : length (row_at s.table (longest (ends_with w) s.table)).letters ≡ 0 = ap (λ (r : ℕ). length (row_at s.table r).letters) g ∙ no_letters s.table in
          let b = leb-true 1 (length (row_at s.table i).letters) (both_0 _ _ (row i f.0 m)) in
          omega arith
      go (inl f) (inl g) =
          let r : ℕ = longest (ends_with w) s.table in
          let e = both_1 (leb 1 (length (row_at s.table r).letters)) _ (row r g.0 g.1) in
          let a = leb-true 1 (row_at s.table r).class (both_0 _ _ e) in
          let b = leb-true (least_letters s.guards (row_at s.table r).class) bound (both_1 (leb 1 (row_at s.table r).class) _ e) in
          false≢true (sym (taken_none (ends_with w) s n q) ∙ met_by s.guards (row_at s.table r).class n a (omega arith))
