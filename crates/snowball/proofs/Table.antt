-- What the test `well_formed` says of a table. Assumes nothing.
use mathlib.Core.Path.{◌≡◌, refl, sym, ap, ◌∙◌}
use mathlib.Core.Bool.{Bool, true, false, not}
use mathlib.Core.List.{List, [], ◌∷◌}
use Prim.Native.Nat.{ℕ, zero, suc, ◌+◌, ◌≤◌, ◌<◌}
use native.Mathlib.Nat.{add-zero, zero-add, add-suc, suc-add}
use native.Mathlib.Omega.{arith}
use lib.ListN.{length, get_or}
use lib.Dec.{T, leb, ltb, eqb}
use Rattle.std.proofs.Common.{Option, Some, None}
use borrow.Author.Tests.{eqb-true, leb-true, ltb-true, lt-ltb}
use Rattle.definition.specs.Words.{pick, both, every}
use Rattle.definition.proofs.Match.{both_0, both_1, clash}
use Rattle.snowball.specs.Rows.{before, begins, rising, proper, link_is, linked, sized, ordered, well_formed}
use Rattle.snowball.proofs.Order.{Begins, begins_true, true_begins}

all_at : (f : List ℕ → Bool) (us : List (List ℕ)) → every f us ≡ true → (k : ℕ) → k < length us → f (get_or us k []) ≡ true
all_at f [] t k h = absurd (omega arith)
all_at f (u ∷ us) t zero h = both_0 (f u) (every f us) t
all_at f (u ∷ us) t (suc k) h = all_at f us (both_1 (f u) (every f us) t) k (omega arith)

rising_at : (us : List (List ℕ)) → rising us ≡ true → (a b : ℕ) → a < b → b < length us → before (get_or us a []) (get_or us b []) ≡ true
rising_at [] t a b h k = absurd (omega arith)
rising_at (u ∷ us) t a zero h k = absurd (omega arith)
rising_at (u ∷ us) t zero (suc b) h k = all_at (before u) us (both_0 (every (before u) us) (rising us) t) b (omega arith)
rising_at (u ∷ us) t (suc a) (suc b) h k = rising_at us (both_1 (every (before u) us) (rising us) t) a b (omega arith) (omega arith)

sized-length : (us : List (List ℕ)) (ns : List ℕ) → sized us ns ≡ true → length ns ≡ length us
sized-length [] [] t = refl
sized-length [] (n ∷ ns) t = absurd (clash t refl)
sized-length (u ∷ us) [] t = absurd (clash t refl)
sized-length (u ∷ us) (n ∷ ns) t = ap suc (sized-length us ns (both_1 (both (eqb (length u) n) (both (leb 1 n) (leb n 6))) (sized us ns) t))

sized_at : (us : List (List ℕ)) (ns : List ℕ) → sized us ns ≡ true → (k : ℕ) → k < length us → (length (get_or us k []) ≡ get_or ns k 0) × (1 ≤ get_or ns k 0) × (get_or ns k 0 ≤ 6)
sized_at [] ns t k h = absurd (omega arith)
sized_at (u ∷ us) [] t k h = absurd (clash t refl)
sized_at (u ∷ us) (n ∷ ns) t zero h =
    let a = both_0 (both (eqb (length u) n) (both (leb 1 n) (leb n 6))) (sized us ns) t in
    let b = both_1 (eqb (length u) n) (both (leb 1 n) (leb n 6)) a in
    (eqb-true (length u) n (both_0 (eqb (length u) n) (both (leb 1 n) (leb n 6)) a), leb-true 1 n (both_0 (leb 1 n) (leb n 6) b), leb-true n 6 (both_1 (leb 1 n) (leb n 6) b))
sized_at (u ∷ us) (n ∷ ns) t (suc k) h = sized_at us ns (both_1 (both (eqb (length u) n) (both (leb 1 n) (leb n 6))) (sized us ns) t) k (omega arith)

linked_from : (us : List (List ℕ)) (i : ℕ) (vs : List (List ℕ)) (js : List (Option ℕ)) → linked us i vs js ≡ true → (k : ℕ) → k < length vs → link_is us (i + k) (get_or vs k []) (get_or js k None) ≡ true
linked_from us i [] js t k h = absurd (omega arith)
linked_from us i (v ∷ vs) [] t k h = absurd (clash t refl)
linked_from us i (v ∷ vs) (j ∷ js) t zero h = ap (λ (m : ℕ). link_is us m v j) (add-zero i) ∙ both_0 (link_is us i v j) (linked us (suc i) vs js) t
linked_from us i (v ∷ vs) (j ∷ js) t (suc k) h =
    ap (λ (m : ℕ). link_is us m (get_or vs k []) (get_or js k None)) (add-suc i k ∙ sym (suc-add i k))
    ∙ linked_from us (suc i) vs js (both_1 (link_is us i v j) (linked us (suc i) vs js) t) k (omega arith)

proper_true : (u v : List ℕ) → Begins u v → length u < length v → proper u v ≡ true
proper_true u v b l = (λ k. both (true_begins u v b k) (ltb (length u) (length v))) ∙ lt-ltb (length u) (length v) l

not_both : (b : Bool) → not b ≡ true → b ≡ true → ⊥
not_both true t e = clash t refl
not_both false t e = clash e refl

-- what the halving needs of a table
pub record Rows (us : List (List ℕ)) (ns : List ℕ) : Type 0 where
  pub one : 1 ≤ length us
  pub ns_length : length ns ≡ length us
  pub size : (k : ℕ) → k < length us → length (get_or us k []) ≡ get_or ns k 0
  pub least : (k : ℕ) → k < length us → 1 ≤ get_or ns k 0
  pub most : (k : ℕ) → k < length us → get_or ns k 0 ≤ 6
  pub rise : (a b : ℕ) → a < b → b < length us → before (get_or us a []) (get_or us b []) ≡ true

-- a well-formed table
pub record Table (us : List (List ℕ)) (ns : List ℕ) (js : List (Option ℕ)) : Type 0 where
  pub rows : Rows us ns
  pub unlinked : (i : ℕ) → i < length us → get_or js i None ≡ None → (k : ℕ) → k < length us → Begins (get_or us k []) (get_or us i []) → length (get_or us k []) < length (get_or us i []) → ⊥
  pub smaller : (i j : ℕ) → i < length us → get_or js i None ≡ Some j → j < i
  pub link_begins : (i j : ℕ) → i < length us → get_or js i None ≡ Some j → Begins (get_or us j []) (get_or us i [])
  pub link_longest : (i j : ℕ) → i < length us → get_or js i None ≡ Some j → (k : ℕ) → k < length us → Begins (get_or us k []) (get_or us i []) → length (get_or us k []) < length (get_or us i []) → length (get_or us k []) ≤ length (get_or us j [])

module _ (us : List (List ℕ)) (js : List (Option ℕ)) (t : linked us 0 us js ≡ true) (i : ℕ) (h : i < length us) where
  here : (l : Option ℕ) → get_or js i None ≡ l → link_is us i (get_or us i []) l ≡ true
  here l e =
      ap (link_is us i (get_or us i [])) (sym e) ∙ ap (λ (m : ℕ). link_is us m (get_or us i []) (get_or js i None)) (sym (zero-add i)) ∙ linked_from us 0 us js t i h

  no_link : get_or js i None ≡ None → (k : ℕ) → k < length us → Begins (get_or us k []) (get_or us i []) → length (get_or us k []) < length (get_or us i []) → ⊥
  no_link e k l b m =
      not_both (proper (get_or us k []) (get_or us i [])) (all_at (λ u. not (proper u (get_or us i []))) us (here None e) k l) (proper_true (get_or us k []) (get_or us i []) b m)

  module _ (j : ℕ) (e : get_or js i None ≡ Some j) where
    -- the test that every key which row i begins with is no longer than its link's
    longest_link : List ℕ → Bool
    longest_link u = pick (proper u (get_or us i [])) (leb (length u) (length (get_or us j []))) true

    rest : both (proper (get_or us j []) (get_or us i [])) (every longest_link us) ≡ true
    unfolding longest_link
    rest = both_1 (ltb j i) _ (here (Some j) e)

    link_smaller : j < i
    link_smaller = ltb-true j i (both_0 (ltb j i) _ (here (Some j) e))

    link_begin : Begins (get_or us j []) (get_or us i [])
    link_begin =
        begins_true (get_or us j []) (get_or us i [])
        (both_0 (begins (get_or us j []) (get_or us i [])) (ltb (length (get_or us j [])) (length (get_or us i []))) (both_0 (proper (get_or us j []) (get_or us i [])) (every longest_link us) rest))

    link_long : (k : ℕ) → k < length us → Begins (get_or us k []) (get_or us i []) → length (get_or us k []) < length (get_or us i []) → length (get_or us k []) ≤ length (get_or us j [])
    unfolding longest_link
    link_long k l b m =
        leb-true _ _
        (ap (λ (c : Bool). pick c (leb (length (get_or us k [])) (length (get_or us j []))) true) (sym (proper_true (get_or us k []) (get_or us i []) b m))
        ∙ all_at longest_link us (both_1 (proper (get_or us j []) (get_or us i [])) (every longest_link us) rest) k l)

in_rows : (us : List (List ℕ)) (ns : List ℕ) → ordered us ns ≡ true → Rows us ns
in_rows us ns t =
    let b = both_1 (leb 1 (length us)) (both (sized us ns) (rising us)) t in
    let sz = both_0 (sized us ns) (rising us) b in
    record {
      one = leb-true 1 (length us) (both_0 (leb 1 (length us)) (both (sized us ns) (rising us)) t);
      ns_length = sized-length us ns sz;
      size = λ k h. (sized_at us ns sz k h).0;
      least = λ k h. (sized_at us ns sz k h).1;
      most = λ k h. (sized_at us ns sz k h).2;
      rise = rising_at us (both_1 (sized us ns) (rising us) b);
    }

is_true : (b : Bool) → T b → b ≡ true
is_true true t = refl
is_true false t = absurd t

pub in_table : (us : List (List ℕ)) (ns : List ℕ) (js : List (Option ℕ)) → T (well_formed us ns js) → Table us ns js
in_table us ns js t =
    let e = is_true (well_formed us ns js) t in
    let li = both_1 (ordered us ns) (linked us 0 us js) e in
    record {
      rows = in_rows us ns (both_0 (ordered us ns) (linked us 0 us js) e);
      unlinked = λ i h. no_link us js li i h;
      smaller = λ i j h e. link_smaller us js li i h j e;
      link_begins = λ i j h e. link_begin us js li i h j e;
      link_longest = λ i j h e. link_long us js li i h j e;
    }
