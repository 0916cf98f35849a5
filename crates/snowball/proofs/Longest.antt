-- Where the halving ends and the walk over the links begins, and why the walk ends at the longest row. Assumes nothing.
use mathlib.Core.Path.{◌≡◌, refl, sym, subst}
use mathlib.Core.Logic.{◌⊎◌, inl, inr, ⊎_elim}
use mathlib.Core.Bool.{true, false}
use mathlib.Core.List.{List, []}
use Prim.Native.Nat.{ℕ, ◌+◌, ◌≤◌, ◌<◌, zero-le}
use native.Mathlib.Nat.{eq-or-lt_of_le}
use native.Mathlib.Omega.{arith}
use lib.ListN.{length, get_or}
use Rattle.std.proofs.Common.{Option, Some, None}
use Rattle.snowball.specs.Rows.{before}
use Rattle.snowball.specs.Search.{lcp, Halved, Walked, hit, out, on}
use Rattle.snowball.proofs.Order.{Begins, lcp_right, lcp_sym, lcp_self, ultra, between, before_trans, not_begin, not_before}
use Rattle.definition.proofs.Match.{by_le}
use Rattle.snowball.proofs.Table.{Table}

-- what is known of row i where the walk stands at it: every row that is in the text is the beginning of row i, and of those beginnings the ones of at most q bytes are in the text and no others
record Ready (us : List (List ℕ)) (s : List ℕ) (i q : ℕ) : Type 0 where
  covers : (k : ℕ) → k < length us → Begins (get_or us k []) s → Begins (get_or us k []) (get_or us i [])
  yes : (k : ℕ) → k < length us → Begins (get_or us k []) (get_or us i []) → length (get_or us k []) ≤ q → Begins (get_or us k []) s
  not_in : (k : ℕ) → k < length us → Begins (get_or us k []) (get_or us i []) → q < length (get_or us k []) → Begins (get_or us k []) s → ⊥

-- row r is the longest that is in the text, and the first of that length
pub record Longest (us : List (List ℕ)) (s : List ℕ) (r : ℕ) : Type 0 where
  pub row : r < length us
  pub here : Begins (get_or us r []) s
  pub above : (k : ℕ) → k < r → Begins (get_or us k []) s → length (get_or us k []) < length (get_or us r [])
  pub most : (k : ℕ) → k < length us → Begins (get_or us k []) s → length (get_or us k []) ≤ length (get_or us r [])

abbrev pub Nothing : List (List ℕ) → List ℕ → Type 0
Nothing us s = (k : ℕ) → k < length us → Begins (get_or us k []) s → ⊥

self : (u : List ℕ) → Begins u u
self u = let e : lcp u u ≡ length u = lcp_self u in omega arith

flip : (n : ℕ) (u v : List ℕ) → n ≤ lcp u v → n ≤ lcp v u
flip n u v h = subst (λ (m : ℕ). n ≤ m) (lcp_sym u v) h

module _ {us : List (List ℕ)} {ns : List ℕ} {js : List (Option ℕ)} (t : Table us ns js) (s : List ℕ) where
  K : ℕ → List ℕ
  K k = get_or us k []

  -- every row from a on is after s
  after : (a : ℕ) → before s (get_or us a []) ≡ true → (k : ℕ) → a ≤ k → k < length us → Begins (get_or us k []) s → ⊥
  unfolding K
  after a b k l h m =
      ⊎_elim (λ e. not_begin s (K k) (subst (λ (n : ℕ). before s (K n) ≡ true) e b) m)
      (λ e. not_begin s (K k) (before_trans s (K a) (K k) b (t.rows.rise a k e h)) m)
      (eq-or-lt_of_le l)

  ready_none : (q : ℕ) → q ≡ 0 → before s (get_or us 0 []) ≡ true → Ready us s 0 q
  ready_none q z b = record {
    covers = λ k l m. absurd (after 0 b k zero-le l m);
    yes = λ k l m n. absurd (omega (arith, t.rows.size k l, t.rows.least k l));
    not_in = λ k l m n o. after 0 b k zero-le l o;
  }

  module _ (i q : ℕ) (l : i < length us) (b : before s (get_or us i []) ≡ false) (e : q ≡ lcp (get_or us i []) s) (n : (i + 1 ≡ length us) ⊎ (before s (get_or us (i + 1) []) ≡ true)) where
    row_covers : (k : ℕ) → k < length us → Begins (get_or us k []) s → Begins (get_or us k []) (get_or us i [])
    unfolding K
    row_covers k h m =
        by_le k i
        (λ le. ⊎_elim
        (λ ki. subst (λ (x : ℕ). Begins (K k) (K x)) ki (self (K k)))
        (λ ki. ⊎_elim (λ p. subst (λ (x : List ℕ). Begins (K k) x) (sym p) m) (λ p. between (length (K k)) (K k) (K i) s (t.rows.rise k i ki l) p m) (not_before s (K i) b))
        (eq-or-lt_of_le le))
        (λ gt. ⊎_elim (λ z. absurd (omega arith)) (λ z. absurd (after (i + 1) z k (omega arith) h m)) n)

    ready_row : Ready us s i q
    unfolding K
    ready_row = record {
      covers = row_covers;
      yes = λ k h m o. ultra (length (K k)) (K k) (K i) s m (omega arith);
      not_in = λ k h m o p. let z : length (K k) ≤ lcp (K i) s = ultra (length (K k)) (K i) (K k) s (flip (length (K k)) (K k) (K i) m) p in omega arith;
    }

  ready : (i q : ℕ) → Halved us s i q → Ready us s i q
  ready i q H =
      ⊎_elim (λ a. subst (λ (x : ℕ). Ready us s x q) (sym a.0) (ready_none q a.1 a.2))
      (λ a. ready_row i q H.in_table a.0 a.1 a.2)
      H.at

  module _ (i q : ℕ) (l : i < length us) (R : Ready us s i q) where
    hit-longest : length (get_or us i []) ≤ q → Longest us s i
    unfolding K
    hit-longest h = record {
      row = l;
      here = R.yes i l (self (K i)) h;
      above = λ k ki m.
          let c : Begins (K k) (K i) = R.covers k (omega arith) m in
          by_le (length (K i)) (length (K k)) (λ z. absurd (not_begin (K k) (K i) (t.rows.rise k i ki l) (flip (length (K i)) (K k) (K i) (omega arith)))) (λ z. z);
      most = λ k kl m. let c : Begins (K k) (K i) = R.covers k kl m in let d : lcp (K k) (K i) ≤ length (K i) = lcp_right (K k) (K i) in omega arith;
    }

    -- a row that is in the text is shorter than row i, which is not
    shorter : q < length (get_or us i []) → (k : ℕ) → k < length us → Begins (get_or us k []) s → length (get_or us k []) < length (get_or us i [])
    unfolding K
    shorter h k kl m =
        let c : Begins (K k) (K i) = R.covers k kl m in
        by_le (length (K i)) (length (K k)) (λ z. absurd (R.not_in i l (self (K i)) h (ultra (length (K i)) (K i) (K k) s (flip (length (K i)) (K k) (K i) (omega arith)) (omega arith)))) (λ z. z)

    out-nothing : q < length (get_or us i []) → get_or js i None ≡ None → Nothing us s
    out-nothing h e k kl m = t.unlinked i l e k kl (R.covers k kl m) (shorter h k kl m)

    module _ (h : q < length (get_or us i [])) (j : ℕ) (e : get_or js i None ≡ Some j) where
      link : Begins (get_or us j []) (get_or us i [])
      link = t.link_begins i j l e

      up : (k : ℕ) → Begins (get_or us k []) (get_or us j []) → Begins (get_or us k []) (get_or us i [])
      unfolding K
      up k b = let d : lcp (K k) (K j) ≤ length (K j) = lcp_right (K k) (K j) in ultra (length (K k)) (K k) (K j) (K i) b (omega (arith, link))

      on_ready : Ready us s j q
      unfolding K
      on_ready = record {
        covers = λ k kl m.
            let c : Begins (K k) (K i) = R.covers k kl m in
            let z : length (K k) ≤ length (K j) = t.link_longest i j l e k kl c (shorter h k kl m) in
            ultra (length (K k)) (K k) (K i) (K j) c (flip (length (K k)) (K j) (K i) (omega (arith, link)));
        yes = λ k kl b o. R.yes k kl (up k b) o;
        not_in = λ k kl b o m. R.not_in k kl (up k b) o m;
      }

  walked : (q i r : ℕ) → i < length us → Ready us s i q → Walked ns js q i r → Longest us s r ⊎ ((r ≡ length ns) × Nothing us s)
  walked q i r l R (hit h) = inl (hit-longest i q l R (omega (arith, t.rows.size i l)))
  walked q i r l R (out h e) = inr (refl, out-nothing i q l R (omega (arith, t.rows.size i l)) e)
  walked q i r l R (on {j = j} h e w) = walked q j r (omega (arith, t.smaller i j l e)) (on_ready i q l R (omega (arith, t.rows.size i l)) j e) w

  -- the halving and the walk together
  pub found : (i q r : ℕ) → Halved us s i q → Walked ns js q i r → Longest us s r ⊎ ((r ≡ length ns) × Nothing us s)
  found i q r H w = walked q i r H.in_table (ready i q H) w
