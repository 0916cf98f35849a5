-- The row that a step takes, as the code decides it: by the row's class, the guard and the letter count. Assumes nothing.
use mathlib.Core.Path.{◌≡◌, refl, sym, ap, ◌∙◌, subst}
use Rattle.std.specs.Prelude.{Option as Maybe, Some, None, MatchOption, unwrap_or}
use mathlib.Core.Bool.{Bool, true, false}
use mathlib.Core.List.{List}
use mathlib.Core.Option.{none, some}
use Prim.Native.Nat.{ℕ, zero, suc, ◌-◌}
use native.Mathlib.Omega.{arith}
use lib.Dec.{leb}
use lib.ListN.{length, take, drop, length-drop}
use lib.Seq.{take-length, take-take}
use Rattle.definition.specs.Words.{Word, pick}
use Rattle.definition.specs.Search.{Rule, row_at, longest, least_letters, met, guard_met, taken}
use Rattle.snowball.specs.Search.{between}

-- ---- guards
pub met_is : (g : List ℕ) (c n : ℕ) → (c ≡ 0 → ⊥) → met g c n ≡ leb (least_letters g c) n
unfolding met
met_is g zero n h = absurd (h refl)
met_is g (suc c) n h = refl

pub met_zero : (g : List ℕ) (c n : ℕ) → c ≡ 0 → met g c n ≡ false
unfolding met
met_zero g zero n h = refl
met_zero g (suc c) n h = absurd (omega arith)

-- ---- the row
-- a row is taken where its guard is met
pub taken_is : (match : Word → Bool) (s : Rule) (n class : ℕ) → class ≡ (row_at s.table (longest match s.table)).class
    → (b : Bool) → b ≡ met s.guards class n → taken match s n ≡ pick b (some (longest match s.table)) none
unfolding taken
taken_is match s n class c b h = ap (λ (x : Bool). pick x (some (longest match s.table)) none) (ap (λ (k : ℕ). met s.guards k n) (sym c) ∙ sym h)

-- and it is the longest
pub taken_longest : (match : Word → Bool) (s : Rule) (n r : ℕ) → taken match s n ≡ some r → longest match s.table ≡ r
unfolding taken
taken_longest match s n r = go (guard_met s (longest match s.table) n)
  where
    go : (b : Bool) → pick b (some (longest match s.table)) none ≡ some r → longest match s.table ≡ r
    go true e = cc
    go false e = let z : ◌≡◌ {A = ℕ} 0 1 = cc in absurd (omega arith)

-- ---- all bytes of a text
pub whole : (t : List ℕ) → between t 0 (length t) ≡ t
unfolding between
whole t = let e : length t - 0 ≡ length t = omega arith in ap (λ (n : ℕ). take n t) e ∙ take-length t

-- those of the first n bytes of one
pub front : (t : List ℕ) (n : ℕ) (b : List ℕ) → b ≡ take n t → between b 0 n ≡ take n t
unfolding between
front t n b e = let z : n - 0 ≡ n = omega arith in (λ i. take (z i) (e i)) ∙ take-take n n t (omega arith)

-- and those from a place on
pub from_here : (t : List ℕ) (i : ℕ) → between t i (length t) ≡ drop i t
unfolding between
from_here t i = ap (λ (n : ℕ). take n (drop i t)) (sym (length-drop i t)) ∙ take-length (drop i t)

-- ---- what is there, and what is not
pub some_none : {A : Type 0} {x : A} → Some x ≡ None → ⊥
some_none {A} e = subst (λ (o : Maybe A). MatchOption o ⊥ (λ _. Unit {0})) e tt

pub some-same : {A : Type 0} {x y : A} → Some x ≡ Some y → x ≡ y
some-same {A} {x} e = ap (λ (o : Maybe A). unwrap_or o x) e
