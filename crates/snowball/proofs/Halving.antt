-- The halving search, on plain values. Assumes nothing.
use mathlib.Core.Path.{◌≡◌, refl, sym, ap, ◌∙◌, subst}
use mathlib.Core.Logic.{◌⊎◌, inl, inr, ⊎_elim}
use mathlib.Core.Bool.{Bool, true, false}
use mathlib.Core.List.{List, []}
use Prim.Native.Nat.{ℕ, ◌+◌, ◌-◌, ◌/◌, ◌≤◌, ◌<◌}
use native.Mathlib.Omega.{arith}
use native.Mathlib.Nat.{eq-or-lt_of_le}
use lib.ListN.{length, get_or}
use Rattle.definition.proofs.Match.{clash}
use Rattle.snowball.specs.Rows.{before}
use Rattle.snowball.specs.Search.{lcp, Halved}
use Rattle.snowball.proofs.Table.{Rows}
use Rattle.snowball.proofs.Order.{lcp_sym, ultra, between}

-- what is known of a row that was compared and is not after s, with c its bytes in common
abbrev Passed : List (List ℕ) → List ℕ → ℕ → ℕ → Type 0
Passed us s i c = (before s (get_or us i []) ≡ false) × (c ≡ lcp (get_or us i []) s)

-- and of one that is after s
abbrev Beyond : List (List ℕ) → List ℕ → ℕ → ℕ → Type 0
Beyond us s j c = (j < length us) × (before s (get_or us j []) ≡ true) × (c ≡ lcp (get_or us j []) s)

-- a turn that is left for the first key
abbrev pub left : Bool → ℕ
left true = 0
left false = 1

-- the invariant at the loop's head
pub record Half (us : List (List ℕ)) (s : List ℕ) (i j ci cj : ℕ) (f : Bool) : Type 0 where
  pub apart : i < j
  pub inside : j ≤ length us
  pub room : (i ≡ 0) ⊎ (i + 1 < j)
  pub low : ((i ≡ 0) × (ci ≡ 0)) ⊎ Passed us s i ci
  pub high : ((j ≡ length us) × (cj ≡ 0)) ⊎ Beyond us s j cj
  pub first : f ≡ true → j ≡ 1

-- after a row was compared, and the range cut
pub record Cut (us : List (List ℕ)) (s : List ℕ) (i j ci cj : ℕ) (f : Bool) : Type 0 where
  pub order : i ≤ j
  pub within : i < length us
  pub inside : j ≤ length us
  pub meet : j ≡ i → i ≡ 0
  pub low : ((i ≡ 0) × (ci ≡ 0)) ⊎ Passed us s i ci
  pub high : ((j ≡ length us) × (cj ≡ 0)) ⊎ Beyond us s j cj
  pub first : f ≡ true → (j ≤ 1) × ((j ≡ 0) ⊎ Passed us s i ci)

pub start : (us : List (List ℕ)) (s : List ℕ) → 1 ≤ length us → Half us s 0 (length us) 0 0 false
start us s h = record {
  apart = h;
  inside = omega arith;
  room = inl refl;
  low = inl (refl, refl);
  high = inl (refl, refl);
  first = λ e. absurd (clash e refl);
}

module _ (us : List (List ℕ)) (s : List ℕ) (rise : (a b : ℕ) → a < b → b < length us → before (get_or us a []) (get_or us b []) ≡ true) where
  K : ℕ → List ℕ
  K k = get_or us k []

  mid_share : (m i k j : ℕ) → i ≤ k → k < j → j < length us → m ≤ lcp (K i) s → m ≤ lcp (K j) s → m ≤ lcp (K k) s
  unfolding K
  mid_share m i k j a b l p q =
      let ij : m ≤ lcp (K i) (K j) = ultra m (K i) s (K j) p (subst (λ (n : ℕ). m ≤ n) (lcp_sym (K j) s) q) in
      ⊎_elim
      (λ e. subst (λ (n : ℕ). m ≤ lcp (K n) s) e p)
      (λ (h : i < k).
      let ik : m ≤ lcp (K i) (K k) = between m (K i) (K k) (K j) (rise i k h (omega arith)) (rise k j b l) ij in
      ultra m (K k) (K i) s (subst (λ (n : ℕ). m ≤ n) (lcp_sym (K i) (K k)) ik) p)
      (eq-or-lt_of_le a)

  module _ {i j ci cj : ℕ} {f : Bool} (H : Half us s i j ci cj f) where
    -- the row in the middle shares what the two ends share
    skip : (k m : ℕ) → i ≤ k → k < j → m ≤ ci → m ≤ cj → m ≤ lcp (get_or us k []) s
    unfolding K
    skip k m a b p q =
        ⊎_elim (λ l. nought (omega (arith, l.1)))
        (λ l. ⊎_elim (λ h. nought (omega (arith, h.1)))
        (λ h. mid_share m i k j a b h.0 (subst (λ (n : ℕ). m ≤ n) l.1 p) (subst (λ (n : ℕ). m ≤ n) h.2 q))
        H.high)
        H.low
      where
        nought : m ≤ 0 → m ≤ lcp (get_or us k []) s
        nought z = omega arith

    module _ (k : ℕ) (e : k ≡ i + (j - i) / 2) where
      mid_low : i ≤ k
      mid_low = omega arith

      mid_high : k < j
      mid_high = omega (arith, H.apart)

      cut_high : (c : ℕ) → before s (get_or us k []) ≡ true → c ≡ lcp (get_or us k []) s → Cut us s i k ci c f
      cut_high c b q = record {
        order = mid_low;
        within = omega (arith, H.apart, H.inside);
        inside = omega (arith, mid_high, H.inside);
        meet = λ z. ⊎_elim (λ r. r) (λ r. absurd (omega arith)) H.room;
        low = H.low;
        high = inr (omega (arith, mid_high, H.inside), b, q);
        first = λ z. let o = H.first z in (omega (arith, mid_high), inl (omega (arith, mid_high)));
      }

      cut_low : (c : ℕ) → before s (get_or us k []) ≡ false → c ≡ lcp (get_or us k []) s → Cut us s k j c cj f
      cut_low c b q = record {
        order = omega (arith, mid_high);
        within = omega (arith, mid_high, H.inside);
        inside = H.inside;
        meet = λ z. absurd (omega (arith, mid_high));
        low = inr (b, q);
        high = H.high;
        first = λ z. (omega (arith, H.first z), inr (b, q));
      }

recast : {us : List (List ℕ)} {s : List ℕ} {i j ci cj i' j' ci' cj' : ℕ} {f : Bool} → i ≡ i' → j ≡ j' → ci ≡ ci' → cj ≡ cj' → Cut us s i' j' ci' cj' f → Cut us s i j ci cj f
recast {us} {s} {i} {j} {ci} {cj} {i'} {j'} {ci'} {cj'} {f} a b p q C =
    subst (λ (n : ℕ). Cut us s n j ci cj f) (sym a)
    (subst (λ (n : ℕ). Cut us s i' n ci cj f) (sym b)
    (subst (λ (n : ℕ). Cut us s i' j' n cj f) (sym p)
    (subst (λ (n : ℕ). Cut us s i' j' ci' n f) (sym q) C)))

-- one turn of the loop, at row k in the middle
module _ {us : List (List ℕ)} {ns s : List ℕ} (R : Rows us ns) {i j ci cj : ℕ} {f : Bool} (H : Half us s i j ci cj f) where
  abbrev middle : ℕ
  middle = i + (j - i) / 2

  pub in_rows : middle < length us
  in_rows = let m : middle < j = mid_high us s R.rise H middle refl in omega (arith, H.inside)

  module _ (u : List ℕ) (e : get_or us middle [] ≡ u) where
    pub shares : (m : ℕ) → m ≤ ci → m ≤ cj → m ≤ lcp u s
    shares m a b = subst (λ (v : List ℕ). m ≤ lcp v s) e (skip us s R.rise H middle m (mid_low us s R.rise H middle refl) (mid_high us s R.rise H middle refl) a b)

    to_high : (c : ℕ) → true ≡ before s u → c ≡ lcp u s → Cut us s i middle ci c f
    to_high c b q = cut_high us s R.rise H middle refl c (ap (before s) e ∙ sym b) (q ∙ ap (λ (v : List ℕ). lcp v s) (sym e))

    to_low : (c : ℕ) → false ≡ before s u → c ≡ lcp u s → Cut us s middle j c cj f
    to_low c b q = cut_low us s R.rise H middle refl c (ap (before s) e ∙ sym b) (q ∙ ap (λ (v : List ℕ). lcp v s) (sym e))

    -- the range that a comparison leaves
    pub turned : (c : ℕ) (less : Bool) {i' j' ci' cj' : ℕ} → c ≡ lcp u s → less ≡ before s u
        → ((less ≡ true) × (i' ≡ i) × (j' ≡ middle) × (ci' ≡ ci) × (cj' ≡ c)) ⊎ ((less ≡ false) × (i' ≡ middle) × (j' ≡ j) × (ci' ≡ c) × (cj' ≡ cj))
        → Cut us s i' j' ci' cj' f
    turned c less q l (inl w) = recast w.1 w.2 w.3 w.4 (to_high c (sym w.0 ∙ l) q)
    turned c less q l (inr w) = recast w.1 w.2 w.3 w.4 (to_low c (sym w.0 ∙ l) q)

-- what the loop does after the cut
module _ {us : List (List ℕ)} {s : List ℕ} {i j ci cj : ℕ} {f : Bool} (C : Cut us s i j ci cj f) where
  pub again : 1 < j - i → Half us s i j ci cj f
  again h = record {
    apart = omega arith;
    inside = C.inside;
    room = inr (omega arith);
    low = C.low;
    high = C.high;
    first = λ e. let o : j ≤ 1 = (C.first e).0 in absurd (omega arith);
  }

  pub again-first : j - i ≤ 1 → i ≤ 0 → (j ≡ i → ⊥) → Half us s i j ci cj true
  again-first h z n = record {
    apart = omega (arith, C.order);
    inside = C.inside;
    room = inl (omega arith);
    low = C.low;
    high = C.high;
    first = λ e. omega (arith, C.order);
  }

  next_high : j ≡ i + 1 → (i + 1 ≡ length us) ⊎ (before s (get_or us (i + 1) []) ≡ true)
  next_high e =
      ⊎_elim (λ h. inl (omega (arith, h.0)))
      (λ h. inr (subst (λ (n : ℕ). before s (get_or us n []) ≡ true) e h.1))
      C.high

  -- the way out behind the first row
  pub out_later : j - i ≤ 1 → 0 < i → Halved us s i ci
  out_later h l = record {
    in_table = C.within;
    at = ⊎_elim (λ z. absurd (omega (arith, z.0))) (λ p. inr (p.0, p.1, next_high (above (eq-or-lt_of_le C.order)))) C.low;
  }
    where
      above : (i ≡ j) ⊎ (i < j) → j ≡ i + 1
      above (inl e) = let z : i ≡ 0 = C.meet (sym e) in absurd (omega arith)
      above (inr e) = omega arith
