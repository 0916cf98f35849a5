-- What the library's search among the keys of A_0 finds: the class of a letter. Assumes nothing.
use mathlib.Core.Path.{◌≡◌, refl, sym, ap, ◌∙◌, subst}
use Prim.Native.Nat.{ℕ, zero, suc, ◌≤◌, ◌<◌}
use native.Mathlib.Nat.{eq-or-lt_of_le}
use native.Mathlib.Omega.{arith}
use lib.ListN.{length, get_or}
use mathlib.Core.Logic.{⊎_elim}
use Rattle.std.specs.Prelude.{Option, Some, None, Result, Ok, Err, MatchResult, MatchOption, IsSomeAnd, IfSome}
use Rattle.std.specs.Result.{result_ok}
use Rattle.definition.proofs.Match.{by_le}
use Rattle.definition.specs.Tables.{A_0}
use Rattle.arabic.specs.Rows.{keys, classes, class_of, listed}
use Rattle.arabic.proofs.Table.{keys_rise, row_at_lem, row_none, class_at, class_positive, class_none}

keys-length : length keys ≡ 161
unfolding keys A_0
keys-length = refl

-- the keys rise
pub rise : (i j : ℕ) → i ≤ j → j < length keys → get_or keys i 0 ≤ get_or keys j 0
rise i j h l = ⊎_elim (λ (e : i ≡ j). omega (arith, ap (λ (k : ℕ). get_or keys k 0) e)) (λ (g : i < j). omega (arith, keys_rise i j g (omega (arith, keys-length)))) (eq-or-lt_of_le h)

-- what a search for c answers: its place, or the place between smaller and greater keys
abbrev pub Searched : ℕ → Result ℕ ℕ → Type 0
Searched c r = MatchResult r (λ i. (i < length keys) × (get_or keys i 0 ≡ c)) (λ i. (i ≤ length keys) × ((k : ℕ) → k < i → get_or keys k 0 < c) × ((k : ℕ) → i ≤ k → k < length keys → c < get_or keys k 0))

listed_some : (k : ℕ) → 0 < k → Some k ≡ listed k
listed_some zero h = absurd (omega arith)
listed_some (suc k) h = refl

found : (c i : ℕ) → Searched c (Ok i) → Some (get_or classes i 0) ≡ listed (class_of c)
found c i s =
    let l : i < 161 = omega (arith, s.0, keys-length) in
    let r = row_at_lem c i l s.1 in
    let e : get_or classes i 0 ≡ class_of c = ap (λ (j : ℕ). get_or classes j 0) (sym r) ∙ class_at c in
    ap Some e ∙ listed_some (class_of c) (class_positive c (omega (arith, r)))

missed : (c i : ℕ) → Searched c (Err i) → None ≡ listed (class_of c)
missed c i s =
    ap listed (sym (class_none c (row_none c (λ k l e.
    by_le i k
    (λ (g : i ≤ k). omega (arith, s.2 k g (omega (arith, keys-length))))
    (λ (g : k < i). omega (arith, s.1 k g))))))

-- the class of the row that is found, if there is one
pub answered : (c : ℕ) (r : Result ℕ ℕ) (o p : Option ℕ) → Searched c r → o ≡ result_ok r → MatchOption o (p ≡ None) (λ i. IsSomeAnd p (λ k. k ≡ get_or classes i 0)) → p ≡ listed (class_of c)
answered c r o p s e m = go r p s (subst (λ (q : Option ℕ). MatchOption q (p ≡ None) (λ i. IsSomeAnd p (λ k. k ≡ get_or classes i 0))) e m)
  where
    go : (r : Result ℕ ℕ) (p : Option ℕ) → Searched c r → MatchOption (result_ok r) (p ≡ None) (λ i. IsSomeAnd p (λ k. k ≡ get_or classes i 0)) → p ≡ listed (class_of c)
    go (Ok i) (Some k) s m = ap Some m ∙ found c i s
    go (Ok i) None s m = absurd m
    go (Err i) p s m = m ∙ missed c i s

-- a class is less than 56
pub listed_small : (k : ℕ) → k < 56 → (o : Option ℕ) → o ≡ listed k → IfSome o (λ c. c < 56)
listed_small zero h o e = rw e tt
listed_small (suc k) h o e = rw e h
