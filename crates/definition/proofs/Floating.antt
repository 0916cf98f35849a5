-- The floating marks: which they are, a word without them, and item 2 of it. Assumes nothing.
use mathlib.Core.Path.{◌≡◌, refl, sym, ap, ◌∙◌}
use mathlib.Core.Bool.{Bool, true, false, not}
use mathlib.Core.Logic.{inl, inr}
use mathlib.Core.List.{List, [], ◌∷◌, ◌++◌}
use Prim.Native.Nat.{ℕ, zero, suc, ◌+◌, ◌-◌, ◌<◌}
use native.Mathlib.Omega.{arith}
use lib.Dec.{eqb, ltb}
use borrow.Author.Tests.{eqb-true, eq-eqb, ltb-true, ltb-false, not-true}
use Rattle.definition.specs.Words.{Word, pick, both, every}
use Rattle.definition.specs.Tables.{Row, Table, A_0}
use Rattle.definition.specs.Normal.{gives, listed_for, given, normal, normalise}
use Rattle.definition.specs.Demand3.{NoKey}
use Rattle.definition.specs.Facts.{in_range}
use Rattle.definition.specs.Floating.{floating_marks, one_of, floating, unmarked, without_marks, FloatingRanges, no_mark}
use Rattle.definition.proofs.Match.{both_0, both_1, either_right, by, clash}
use Rattle.definition.proofs.Found.{all_at}
use Rattle.definition.proofs.Passed.{in_range_lem, range_in, key_free}
use Rattle.definition.proofs.Twice.{normalise-joined, normalise_twice}

-- ---- the fourteen, as ranges

one_of_lem : (p : ℕ → Bool) (ds : List ℕ) → every p ds ≡ true → (c : ℕ) → one_of ds c ≡ true → p c ≡ true
one_of_lem p [] a c e = absurd (clash e refl)
one_of_lem p (d ∷ ds) a c e =
    by (eqb c d)
    (λ t. ap p (eqb-true c d t) ∙ both_0 (p d) (every p ds) a)
    (λ t. one_of_lem p ds (both_1 (p d) (every p ds) a) c (rw t at e))

abbrev in_ranges : ℕ → Bool
in_ranges c = pick (in_range 0xFE70 0xFE72 c) true (pick (eqb c 0xFE74) true (in_range 0xFE76 0xFE7F c))

all_in_ranges : every in_ranges floating_marks ≡ true
unfolding floating_marks
all_in_ranges = refl

pub floating_ranges : (c : ℕ) → floating c ≡ true → FloatingRanges c
unfolding floating
floating_ranges c e =
    let t = one_of_lem in_ranges floating_marks all_in_ranges c e in
    by (in_range 0xFE70 0xFE72 c)
    (λ h. inl (in_range_lem 0xFE70 0xFE72 c h))
    (λ h. by (eqb c 0xFE74) (λ k. inr (inl (eqb-true c 0xFE74 k))) (λ k. inr (inr (in_range_lem 0xFE76 0xFE7F c (rw (h, k) at t)))))

in_ranges_lem : (c : ℕ) → FloatingRanges c → in_ranges c ≡ true
in_ranges_lem c (inl h) = rw (range_in 0xFE70 0xFE72 c h) refl
in_ranges_lem c (inr (inl h)) = either_right (in_range 0xFE70 0xFE72 c) _ (rw (eq-eqb c 0xFE74 h) refl)
in_ranges_lem c (inr (inr h)) = either_right (in_range 0xFE70 0xFE72 c) _ (either_right (eqb c 0xFE74) _ (range_in 0xFE76 0xFE7F c h))

-- a test of all numbers below n
abbrev below : (ℕ → Bool) → ℕ → Bool
below p zero = true
below p (suc n) = both (p n) (below p n)

below_at : (p : ℕ → Bool) (n : ℕ) → below p n ≡ true → (k : ℕ) → k < n → p k ≡ true
below_at p zero t k h = absurd (omega arith)
below_at p (suc n) t k h =
    by (ltb k n)
    (λ e. below_at p n (both_1 (p n) (below p n) t) k (ltb-true k n e))
    (λ e. let g = ltb-false k n e in let q : k ≡ n = omega arith in ap p q ∙ both_0 (p n) (below p n) t)

-- the letters FE70 to FE7F of the ranges are listed
abbrev listed : ℕ → Bool
listed k = pick (in_ranges (0xFE70 + k)) (floating (0xFE70 + k)) true

all_listed : below listed 16 ≡ true
unfolding floating floating_marks
all_listed = refl

near : (c : ℕ) → FloatingRanges c → (c - 0xFE70 < 16) × (0xFE70 + (c - 0xFE70) ≡ c)
near c (inl h) = (omega arith, omega arith)
near c (inr (inl h)) = (omega arith, omega arith)
near c (inr (inr h)) = (omega arith, omega arith)

pub ranges_floating : (c : ℕ) → FloatingRanges c → floating c ≡ true
ranges_floating c r =
    let n = near c r in
    sym (ap floating n.1)
    ∙ sym (ap (λ (b : Bool). pick b (floating (0xFE70 + (c - 0xFE70))) true) (ap in_ranges n.1 ∙ in_ranges_lem c r))
    ∙ below_at listed 16 all_listed (c - 0xFE70) n.0

-- ---- the word without them

behind : (c : ℕ) (b : Bool) (x y z : Word) → x ≡ y ++ z → pick b x (c ∷ x) ≡ pick b y (c ∷ y) ++ z
behind c true x y z e = e
behind c false x y z e = ap (λ (w : Word). c ∷ w) e

pub unmarked-joined : (u v : Word) → unmarked (u ++ v) ≡ unmarked u ++ unmarked v
unfolding unmarked
unmarked-joined [] v = refl
unmarked-joined (c ∷ u) v = behind c (floating c) (unmarked (u ++ v)) (unmarked u) (unmarked v) (unmarked-joined u v)

none_left : (c : ℕ) (w : Word) (b : Bool) → floating c ≡ b → no_mark w ≡ true → no_mark (pick b w (c ∷ w)) ≡ true
none_left c w true e h = h
none_left c w false e h = rw e h

pub unmarked_free : (w : Word) → no_mark (unmarked w) ≡ true
unfolding unmarked
unmarked_free [] = refl
unmarked_free (c ∷ w) = none_left c (unmarked w) (floating c) refl (unmarked_free w)

pub free_unmarked : (w : Word) → no_mark w ≡ true → unmarked w ≡ w
unfolding unmarked
free_unmarked [] h = refl
free_unmarked (c ∷ w) h =
    ap (λ (b : Bool). pick b (unmarked w) (c ∷ unmarked w)) (not-true (floating c) (both_0 (not (floating c)) (no_mark w) h))
    ∙ ap (λ (x : Word). c ∷ x) (free_unmarked w (both_1 (not (floating c)) (no_mark w) h))

pub unmarked_twice : (w : Word) → unmarked (unmarked w) ≡ unmarked w
unmarked_twice w = free_unmarked (unmarked w) (unmarked_free w)

pub marks_alone : (w : Word) → every floating w ≡ true → unmarked w ≡ []
unfolding unmarked
marks_alone [] h = refl
marks_alone (c ∷ w) h =
    ap (λ (b : Bool). pick b (unmarked w) (c ∷ unmarked w)) (both_0 (floating c) (every floating w) h)
    ∙ marks_alone w (both_1 (floating c) (every floating w) h)

-- ---- item 2: no row of A_0 has a mark, and none gives one

abbrev letter_free : Row → Bool
letter_free r = no_mark r.letters

keys_free : every letter_free A_0 ≡ true
unfolding A_0 floating floating_marks
keys_free = refl

gives_free : every letter_free gives ≡ true
unfolding gives floating floating_marks
gives_free = refl

mark_no_key : (c : ℕ) → floating c ≡ true → NoKey c
mark_no_key c f r h e =
    let t : no_mark (c ∷ []) ≡ true = ap no_mark (sym e) ∙ all_at letter_free A_0 keys_free r h in
    clash f (not-true (floating c) (both_0 (not (floating c)) true t))

either_free : (b : Bool) (u v : Word) → no_mark u ≡ true → no_mark v ≡ true → no_mark (pick b u v) ≡ true
either_free true u v h k = h
either_free false u v h k = k

listed_free : (t : Table) → every letter_free t ≡ true → (k : ℕ) → no_mark (listed_for t k) ≡ true
unfolding listed_for
listed_free [] a k = refl
listed_free (g ∷ gs) a k =
    either_free (eqb g.class k) g.letters (listed_for gs k) (both_0 (letter_free g) (every letter_free gs) a) (listed_free gs (both_1 (letter_free g) (every letter_free gs) a) k)

given_free : (c k : ℕ) → floating c ≡ false → no_mark (given c k) ≡ true
unfolding given
given_free c zero e = rw e refl
given_free c (suc k) e = listed_free gives gives_free (suc k)

-- so the marks may go before it or after it
late : (c : ℕ) (b : Bool) → floating c ≡ b → unmarked (normal c) ≡ pick b [] (normal c)
unfolding unmarked normal
late c true e = ap unmarked (key_free c (mark_no_key c e)) ∙ ap (λ (b : Bool). pick b [] (c ∷ [])) e
late c false e = free_unmarked (normal c) (given_free c _ e)

pub normalise-unmarked : (w : Word) → normalise (unmarked w) ≡ unmarked (normalise w)
unfolding unmarked normalise
normalise-unmarked [] = refl
normalise-unmarked (c ∷ w) =
    go (floating c)
    ∙ (λ i. sym (late c (floating c) refl) i ++ normalise-unmarked w i)
    ∙ sym (unmarked-joined (normal c) (normalise w))
  where
    go : (b : Bool) → normalise (pick b (unmarked w) (c ∷ unmarked w)) ≡ pick b [] (normal c) ++ normalise (unmarked w)
    go true = refl
    go false = refl

-- ---- item 2 of the word without them: of two words joined, and of what it leaves itself

pub without-joined : (u v : Word) → without_marks normalise (u ++ v) ≡ without_marks normalise u ++ without_marks normalise v
without-joined u v = ap normalise (unmarked-joined u v) ∙ normalise-joined (unmarked u) (unmarked v)

pub without_twice : (w : Word) → without_marks normalise (without_marks normalise w) ≡ without_marks normalise w
without_twice w = ap normalise (sym (normalise-unmarked (unmarked w)) ∙ ap normalise (unmarked_twice w)) ∙ normalise_twice (unmarked w)
