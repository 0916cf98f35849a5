-- The dictionary order of byte lists and the number of bytes that two lists share. Assumes nothing.
use mathlib.Core.Path.{◌≡◌, refl, sym, ap, ◌∙◌, subst}
use mathlib.Core.Logic.{◌⊎◌, inl, inr, ⊎_elim}
use mathlib.Core.Bool.{Bool, true, false}
use mathlib.Core.List.{List, [], ◌∷◌}
use Prim.Native.Nat.{ℕ, zero, suc, ◌+◌, ◌≤◌, ◌<◌, zero-le, suc-le-suc}
use native.Mathlib.Nat.{le_of_suc-le-suc, not-suc-le-zero, zero-add, suc-add, add-zero}
use native.Mathlib.Omega.{arith}
use lib.ListN.{length, drop, get_or}
use lib.Seq.{drop-cons}
use lib.Dec.{eqb, ltb}
use borrow.Author.Tests.{eqb-true, eqb-false, eq-eqb, ne_eqb, lt-ltb, le-ltb, ltb-true, ltb-false}
use Rattle.definition.specs.Words.{pick, both}
use Rattle.definition.proofs.Match.{by, both_0, both_1, clash}
use Rattle.snowball.specs.Rows.{before, begins}
use Rattle.snowball.specs.Search.{lcp}

same? : (x y : ℕ) → (x ≡ y) ⊎ (x ≡ y → ⊥)
same? x y = by (eqb x y) (λ e. inl (eqb-true x y e)) (λ e. inr (eqb-false x y e))

lcp-same : (x y : ℕ) (u s : List ℕ) → x ≡ y → lcp (x ∷ u) (y ∷ s) ≡ suc (lcp u s)
unfolding lcp
lcp-same x y u s e = ap (λ (b : Bool). pick b (suc (lcp u s)) 0) (eq-eqb x y e)

lcp_diff : (x y : ℕ) (u s : List ℕ) → (x ≡ y → ⊥) → lcp (x ∷ u) (y ∷ s) ≡ 0
unfolding lcp
lcp_diff x y u s e = ap (λ (b : Bool). pick b (suc (lcp u s)) 0) (ne_eqb x y e)

before_same : (x y : ℕ) (u s : List ℕ) → x ≡ y → before (x ∷ u) (y ∷ s) ≡ before u s
before_same x y u s e = ap (λ (b : Bool). pick b (before u s) (ltb x y)) (eq-eqb x y e)

before_diff : (x y : ℕ) (u s : List ℕ) → (x ≡ y → ⊥) → before (x ∷ u) (y ∷ s) ≡ ltb x y
before_diff x y u s e = ap (λ (b : Bool). pick b (before u s) (ltb x y)) (ne_eqb x y e)

lcp_suc : (q x y : ℕ) (u s : List ℕ) → suc q ≤ lcp (x ∷ u) (y ∷ s) → (x ≡ y) × (q ≤ lcp u s)
lcp_suc q x y u s h =
    ⊎_elim (λ e. (e, le_of_suc-le-suc (subst (λ (n : ℕ). suc q ≤ n) (lcp-same x y u s e) h)))
    (λ e. absurd (not-suc-le-zero (subst (λ (n : ℕ). suc q ≤ n) (lcp_diff x y u s e) h)))
    (same? x y)

before_cases : (x y : ℕ) (u s : List ℕ) → before (x ∷ u) (y ∷ s) ≡ true → (x < y) ⊎ ((x ≡ y) × (before u s ≡ true))
before_cases x y u s h =
    ⊎_elim (λ e. inr (e, sym (before_same x y u s e) ∙ h))
    (λ e. inl (ltb-true x y (sym (before_diff x y u s e) ∙ h)))
    (same? x y)

pub lcp-left : (u s : List ℕ) → lcp u s ≤ length u
unfolding lcp
lcp-left [] s = zero-le
lcp-left (x ∷ u) [] = zero-le
lcp-left (x ∷ u) (y ∷ s) =
    ⊎_elim (λ e. subst (λ (n : ℕ). n ≤ suc (length u)) (sym (lcp-same x y u s e)) (suc-le-suc (lcp-left u s)))
    (λ e. subst (λ (n : ℕ). n ≤ suc (length u)) (sym (lcp_diff x y u s e)) zero-le)
    (same? x y)

pub lcp_sym : (u s : List ℕ) → lcp u s ≡ lcp s u
unfolding lcp
lcp_sym [] [] = refl
lcp_sym [] (y ∷ s) = refl
lcp_sym (x ∷ u) [] = refl
lcp_sym (x ∷ u) (y ∷ s) =
    ⊎_elim (λ e. lcp-same x y u s e ∙ ap suc (lcp_sym u s) ∙ sym (lcp-same y x s u (sym e)))
    (λ e. lcp_diff x y u s e ∙ sym (lcp_diff y x s u (λ f. e (sym f))))
    (same? x y)

pub lcp_right : (u s : List ℕ) → lcp u s ≤ length s
lcp_right u s = subst (λ (n : ℕ). n ≤ length s) (lcp_sym s u) (lcp-left s u)

pub lcp_self : (u : List ℕ) → lcp u u ≡ length u
unfolding lcp
lcp_self [] = refl
lcp_self (x ∷ u) = lcp-same x x u u refl ∙ ap suc (lcp_self u)

-- what u shares with v and v with w, u shares with w
pub ultra : (q : ℕ) (u v w : List ℕ) → q ≤ lcp u v → q ≤ lcp v w → q ≤ lcp u w
unfolding lcp
ultra zero u v w h k = zero-le
ultra (suc q) [] v w h k = absurd (not-suc-le-zero h)
ultra (suc q) (x ∷ u) [] w h k = absurd (not-suc-le-zero h)
ultra (suc q) (x ∷ u) (y ∷ v) [] h k = absurd (not-suc-le-zero k)
ultra (suc q) (x ∷ u) (y ∷ v) (z ∷ w) h k =
    let a : (x ≡ y) × (q ≤ lcp u v) = lcp_suc q x y u v h in
    let b : (y ≡ z) × (q ≤ lcp v w) = lcp_suc q y z v w k in
    subst (λ (n : ℕ). suc q ≤ n) (sym (lcp-same x z u w (a.0 ∙ b.0))) (suc-le-suc (ultra q u v w a.1 b.1))

-- a list between two that share q bytes shares them too
pub between : (q : ℕ) (u v w : List ℕ) → before u v ≡ true → before v w ≡ true → q ≤ lcp u w → q ≤ lcp u v
unfolding lcp
between zero u v w a b h = zero-le
between (suc q) [] v w a b h = absurd (not-suc-le-zero h)
between (suc q) (x ∷ u) v [] a b h = absurd (not-suc-le-zero h)
between (suc q) (x ∷ u) [] (z ∷ w) a b h = absurd (clash a refl)
between (suc q) (x ∷ u) (y ∷ v) (z ∷ w) a b h =
    let e : (x ≡ z) × (q ≤ lcp u w) = lcp_suc q x z u w h in
    ⊎_elim
    (λ l. ⊎_elim (λ m. absurd (omega (arith, e.0))) (λ m. absurd (omega (arith, e.0, m.0))) (before_cases y z v w b))
    (λ l. ⊎_elim (λ m. absurd (omega (arith, e.0, l.0)))
    (λ m. subst (λ (n : ℕ). suc q ≤ n) (sym (lcp-same x y u v l.0)) (suc-le-suc (between q u v w l.1 m.1 e.1)))
    (before_cases y z v w b))
    (before_cases x y u v a)

pub before_trans : (u v w : List ℕ) → before u v ≡ true → before v w ≡ true → before u w ≡ true
before_trans [] [] w a b = absurd (clash a refl)
before_trans [] (y ∷ v) [] a b = absurd (clash b refl)
before_trans [] (y ∷ v) (z ∷ w) a b = refl
before_trans (x ∷ u) [] w a b = absurd (clash a refl)
before_trans (x ∷ u) (y ∷ v) [] a b = absurd (clash b refl)
before_trans (x ∷ u) (y ∷ v) (z ∷ w) a b =
    ⊎_elim
    (λ l. ⊎_elim (λ m. less (omega arith)) (λ m. less (omega (arith, m.0))) (before_cases y z v w b))
    (λ l. ⊎_elim (λ m. less (omega (arith, l.0))) (λ m. before_same x z u w (l.0 ∙ m.0) ∙ before_trans u v w l.1 m.1) (before_cases y z v w b))
    (before_cases x y u v a)
  where
    less : x < z → before (x ∷ u) (z ∷ w) ≡ true
    less h = before_diff x z u w (λ e. omega arith) ∙ lt-ltb x z h

-- a list is not before one that it begins with
pub not_begin : (s u : List ℕ) → before s u ≡ true → length u ≤ lcp u s → ⊥
unfolding lcp
not_begin [] [] a h = clash a refl
not_begin [] (y ∷ u) a h = not-suc-le-zero h
not_begin (x ∷ s) [] a h = clash a refl
not_begin (x ∷ s) (y ∷ u) a h =
    let e : (y ≡ x) × (length u ≤ lcp u s) = lcp_suc (length u) y x u s h in
    ⊎_elim (λ l. omega (arith, e.0)) (λ l. not_begin s u l.1 e.1) (before_cases x y s u a)

pub not_before : (s u : List ℕ) → before s u ≡ false → (u ≡ s) ⊎ (before u s ≡ true)
not_before [] [] h = inl refl
not_before [] (y ∷ u) h = absurd (clash refl h)
not_before (x ∷ s) [] h = inr refl
not_before (x ∷ s) (y ∷ u) h =
    ⊎_elim
    (λ e. ⊎_elim (λ p. inl (λ k. sym e k ∷ p k)) (λ p. inr (before_same y x u s (sym e) ∙ p)) (not_before s u (sym (before_same x y s u e) ∙ h)))
    (λ e. inr (before_diff y x u s (λ f. e (sym f)) ∙ lt-ltb y x (let l : y ≤ x = ltb-false x y (sym (before_diff x y s u e) ∙ h) in lt_of e l)))
    (same? x y)
  where
    lt_of : (x ≡ y → ⊥) → y ≤ x → y < x
    lt_of e l = omega arith

-- past q bytes that they share, the rest decides
peel_lcp : (q : ℕ) (u s : List ℕ) → q ≤ lcp u s → lcp u s ≡ q + lcp (drop q u) (drop q s)
unfolding lcp
peel_lcp zero u s h = sym (zero-add (lcp u s))
peel_lcp (suc q) [] s h = absurd (not-suc-le-zero h)
peel_lcp (suc q) (x ∷ u) [] h = absurd (not-suc-le-zero h)
peel_lcp (suc q) (x ∷ u) (y ∷ s) h =
    let e : (x ≡ y) × (q ≤ lcp u s) = lcp_suc q x y u s h in
    lcp-same x y u s e.0 ∙ ap suc (peel_lcp q u s e.1) ∙ sym (suc-add q (lcp (drop q u) (drop q s)))

peel_before : (q : ℕ) (u s : List ℕ) → q ≤ lcp u s → before s u ≡ before (drop q s) (drop q u)
unfolding lcp
peel_before zero u s h = refl
peel_before (suc q) [] s h = absurd (not-suc-le-zero h)
peel_before (suc q) (x ∷ u) [] h = absurd (not-suc-le-zero h)
peel_before (suc q) (x ∷ u) (y ∷ s) h =
    let e : (x ≡ y) × (q ≤ lcp u s) = lcp_suc q x y u s h in
    before_same y x s u (sym e.0) ∙ peel_before q u s e.1

-- a list begins with u where it shares all of u's bytes
abbrev pub Begins : List ℕ → List ℕ → Type 0
Begins u v = length u ≤ lcp u v

pub begins_true : (u s : List ℕ) → begins u s ≡ true → Begins u s
unfolding lcp
begins_true [] s e = zero-le
begins_true (x ∷ u) [] e = absurd (clash e refl)
begins_true (x ∷ u) (y ∷ s) e =
    subst (λ (n : ℕ). suc (length u) ≤ n) (sym (lcp-same x y u s (eqb-true x y (both_0 (eqb x y) (begins u s) e)))) (suc-le-suc (begins_true u s (both_1 (eqb x y) (begins u s) e)))

pub true_begins : (u s : List ℕ) → Begins u s → begins u s ≡ true
unfolding lcp
true_begins [] s h = refl
true_begins (x ∷ u) [] h = absurd (not-suc-le-zero h)
true_begins (x ∷ u) (y ∷ s) h =
    let e : (x ≡ y) × (length u ≤ lcp u s) = lcp_suc (length u) x y u s h in
    ap (λ (b : Bool). both b (begins u s)) (eq-eqb x y e.0) ∙ true_begins u s e.1

-- what a comparison finds at q, where q bytes are the same
module _ (q : ℕ) (u s : List ℕ) (h : q ≤ lcp u s) where
  pub all_the_row : q ≡ length u → (lcp u s ≡ q) × (before s u ≡ false)
  all_the_row e = (let l : lcp u s ≤ length u = lcp-left u s in omega arith, by (before s u) (λ t. absurd (not_begin s u t (omega arith))) (λ t. t))

  pub all_the_text : q ≡ length s → q < length u → (lcp u s ≡ q) × (before s u ≡ true)
  all_the_text e l = (
    let r : lcp u s ≤ length s = lcp_right u s in omega arith,
    by (before s u) (λ t. t)
        (λ t. absurd (⊎_elim (λ p. let z : length u ≡ length s = ap length p in omega arith) (λ p. not_begin u s p (let y : lcp u s ≡ lcp s u = lcp_sym u s in omega arith)) (not_before s u t))),
  )

  module _ (lu : q < length u) (ls : q < length s) where
    x : ℕ
    x = get_or u q 0

    y : ℕ
    y = get_or s q 0

    rest-lcp : lcp u s ≡ q + lcp (x ∷ drop (suc q) u) (y ∷ drop (suc q) s)
    unfolding x y
    rest-lcp = peel_lcp q u s h ∙ (λ k. q + lcp (drop-cons u q 0 lu k) (drop-cons s q 0 ls k))

    rest-before : before s u ≡ before (y ∷ drop (suc q) s) (x ∷ drop (suc q) u)
    unfolding x y
    rest-before = peel_before q u s h ∙ (λ k. before (drop-cons s q 0 ls k) (drop-cons u q 0 lu k))

    pub text_less : get_or s q 0 < get_or u q 0 → (lcp u s ≡ q) × (before s u ≡ true)
    unfolding x y
    text_less l = (
      rest-lcp ∙ ap (λ (n : ℕ). q + n) (lcp_diff x y (drop (suc q) u) (drop (suc q) s) (λ e. omega arith)) ∙ add-zero q,
      rest-before ∙ before_diff y x (drop (suc q) s) (drop (suc q) u) (λ e. omega arith) ∙ lt-ltb y x l,
    )

    pub text-more : get_or u q 0 < get_or s q 0 → (lcp u s ≡ q) × (before s u ≡ false)
    unfolding x y
    text-more l = (
      rest-lcp ∙ ap (λ (n : ℕ). q + n) (lcp_diff x y (drop (suc q) u) (drop (suc q) s) (λ e. omega arith)) ∙ add-zero q,
      rest-before ∙ before_diff y x (drop (suc q) s) (drop (suc q) u) (λ e. omega arith) ∙ le-ltb y x (omega arith),
    )

    pub one_more : get_or s q 0 ≡ get_or u q 0 → q + 1 ≤ lcp u s
    unfolding x y
    one_more e =
        let z : lcp u s ≡ q + suc (lcp (drop (suc q) u) (drop (suc q) s)) = rest-lcp ∙ ap (λ (n : ℕ). q + n) (lcp-same x y (drop (suc q) u) (drop (suc q) s) (sym e)) in
        omega arith
