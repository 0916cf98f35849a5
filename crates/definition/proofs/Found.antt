-- What a search answers, and a test over all rows of a table. Assumes nothing.
use mathlib.Core.Path.{◌≡◌, refl, sym, ap, ◌∙◌, subst}
use mathlib.Core.Bool.{Bool, true, false, false≢true}
use mathlib.Core.Logic.{◌⊎◌, inl, inr}
use mathlib.Core.List.{List, [], ◌∷◌}
use mathlib.Core.Option.{none, some}
use Prim.Native.Nat.{ℕ, zero, suc, ◌≤◌, ◌<◌}
use native.Mathlib.Omega.{arith}
use lib.Dec.{leb}
use lib.ListN.{length}
use borrow.Author.Tests.{leb-true, leb-false}
use Rattle.definition.specs.Words.{Word, pick, every}
use Rattle.definition.specs.Tables.{Row, Table}
use Rattle.definition.specs.Search.{row_at, longer, longest, Rule, least_letters, met, taken}
use Rattle.definition.specs.Facts.{Longest, LongestMatch}
use Rattle.definition.proofs.Match.{both_0, both_1}

-- r is a row that matches, or stands behind all rows
abbrev pub Found : (Word → Bool) → Table → ℕ → Type 0
Found match t r = ((r < length t) × (match (row_at t r).letters ≡ true)) ⊎ (r ≡ length t)

module _ (match : Word → Bool) (k : Row) (t : Table) (r : ℕ) where
  found_next : Found match t r → Found match (k ∷ t) (suc r)
  found_next (inl h) = inl (omega arith, h.1)
  found_next (inr h) = inr (ap suc h)

  longer-found : (b : Bool) → match k.letters ≡ b → Found match t r → Found match (k ∷ t) (longer b k t r)
  unfolding longer
  longer-found true e f = go (leb (length (row_at t r).letters) (length k.letters))
    where
      go : (c : Bool) → Found match (k ∷ t) (pick c 0 (suc r))
      go true = inl (omega arith, e)
      go false = found_next f
  longer-found false e f = found_next f

  longer-longest : (b : Bool) → match k.letters ≡ b → Longest match t r → Longest match (k ∷ t) (longer b k t r)
  unfolding longer
  longer-longest true e l = go (leb (length (row_at t r).letters) (length k.letters)) refl
    where
      go : (c : Bool) → leb (length (row_at t r).letters) (length k.letters) ≡ c → Longest match (k ∷ t) (pick c 0 (suc r))
      go true h zero i m = omega arith
      go true h (suc i) n m = let g = leb-true (length (row_at t r).letters) (length k.letters) h in let f = l i (omega arith) m in omega arith
      go false h zero i m = let g = leb-false (length (row_at t r).letters) (length k.letters) h in omega arith
      go false h (suc i) n m = l i (omega arith) m
  longer-longest false e l = go
    where
      go : Longest match (k ∷ t) (suc r)
      go zero n m = absurd (false≢true (sym e ∙ m))
      go (suc i) n m = l i (omega arith) m

pub longest-found : (match : Word → Bool) (t : Table) → Found match t (longest match t)
unfolding longest
longest-found match [] = inr refl
longest-found match (k ∷ t) = longer-found match k t (longest match t) (match k.letters) refl (longest-found match t)

pub longest-longest : (match : Word → Bool) (t : Table) → Longest match t (longest match t)
unfolding longest
longest-longest match [] = λ i h m. absurd (omega arith)
longest-longest match (k ∷ t) = longer-longest match k t (longest match t) (match k.letters) refl (longest-longest match t)

pub row-behind : (t : Table) → (row_at t (length t)).class ≡ 0
row-behind [] = refl
row-behind (k ∷ t) = row-behind t

pub no_letters : (t : Table) → length (row_at t (length t)).letters ≡ 0
no_letters [] = refl
no_letters (k ∷ t) = no_letters t

-- with no row that matches, and only then, the search ends behind all rows
none_next : (match : Word → Bool) (k : Row) (t : Table) (b : Bool) → match k.letters ≡ b → longer b k t (longest match t) ≡ suc (length t) → (longest match t ≡ length t) × (b ≡ false)
unfolding longer
none_next match k t true e h = go (leb (length (row_at t (longest match t)).letters) (length k.letters)) refl h
  where
    go : (c : Bool) → leb (length (row_at t (longest match t)).letters) (length k.letters) ≡ c → pick c 0 (suc (longest match t)) ≡ suc (length t) → (longest match t ≡ length t) × (true ≡ false)
    go true l q = absurd (omega arith)
    go false l q =
        let r : longest match t ≡ length t = omega arith in
        absurd (omega (arith, leb-false (length (row_at t (longest match t)).letters) (length k.letters) l, ap (λ (i : ℕ). length (row_at t i).letters) r, no_letters t))
none_next match k t false e h = (omega arith, refl)

none_matches : (match : Word → Bool) (t : Table) → longest match t ≡ length t → (i : ℕ) → i < length t → match (row_at t i).letters ≡ true → ⊥
unfolding longest
none_matches match [] h i l m = omega arith
none_matches match (k ∷ t) h zero l m = false≢true (sym (none_next match k t (match k.letters) refl h).1 ∙ m)
none_matches match (k ∷ t) h (suc i) l m = none_matches match t (none_next match k t (match k.letters) refl h).0 i (omega arith) m

-- so what a search answers is the longest match
pub longest_match : (match : Word → Bool) (t : Table) → LongestMatch match t (longest match t)
longest_match match t = go (longest-found match t)
  where
    go : Found match t (longest match t) → LongestMatch match t (longest match t)
    go (inl f) = inl (f.0, f.1, longest-longest match t)
    go (inr f) = inr (f, none_matches match t f)

met_guard : (least : List ℕ) (k n : ℕ) → met least k n ≡ true → least_letters least k ≤ n
unfolding met
met_guard least zero n e = absurd (false≢true e)
met_guard least (suc k) n e = leb-true (least_letters least (suc k)) n e

no_row : (least : List ℕ) (k n : ℕ) → k ≡ 0 → met least k n ≡ true → ⊥
unfolding met
no_row least zero n z e = false≢true e
no_row least (suc k) n z e = omega arith

-- r is the row that a step with the rule s takes: it is listed, it matches, its guard is met by n letters, and no row that matches is longer
pub record Taken (match : Word → Bool) (s : Rule) (n r : ℕ) : Type 0 where
  pub inside : r < length s.table
  pub matches : match (row_at s.table r).letters ≡ true
  pub enough : least_letters s.guards (row_at s.table r).class ≤ n
  pub best : Longest match s.table r

module _ (match : Word → Bool) (s : Rule) (n : ℕ) where
  abbrev best : ℕ
  best = longest match s.table

  here : met s.guards (row_at s.table best).class n ≡ true → Found match s.table best → Taken match s n best
  here m (inl f) = record {
    inside = f.0;
    matches = f.1;
    enough = met_guard s.guards (row_at s.table best).class n m;
    best = longest-longest match s.table;
  }
  here m (inr f) = absurd (no_row s.guards (row_at s.table best).class n (ap (λ (r : ℕ). (row_at s.table r).class) f ∙ row-behind s.table) m)

  pub taken_some : (r : ℕ) → taken match s n ≡ some r → Taken match s n r
  unfolding taken
  taken_some r e = go (met s.guards (row_at s.table best).class n) refl e
    where
      go : (b : Bool) → met s.guards (row_at s.table best).class n ≡ b → pick b (some best) none ≡ some r → Taken match s n r
      go true m e = let q : best ≡ r = cc in subst (Taken match s n) q (here m (longest-found match s.table))
      go false m e = let z : ◌≡◌ {A = ℕ} 0 1 = cc in absurd (omega arith)

-- ---- a test of every row
pub all_at : (p : Row → Bool) (t : Table) → every p t ≡ true → (r : ℕ) → r < length t → p (row_at t r) ≡ true
all_at p [] e r h = absurd (omega arith)
all_at p (k ∷ t) e zero h = both_0 (p k) (every p t) e
all_at p (k ∷ t) e (suc r) h = all_at p t (both_1 (p k) (every p t) e) r (omega arith)
