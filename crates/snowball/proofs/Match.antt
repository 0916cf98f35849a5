-- A key at a place: by the library's comparison, and that bytes match just where letters do. Assumes nothing.
use mathlib.Core.Path.{◌≡◌, sym, ap, ◌∙◌}
use Prim.Native.Nat.{ℕ, ◌+◌, ◌-◌, ◌≤◌, ◌<◌}
use mathlib.Core.Bool.{Bool, true, false}
use mathlib.Core.List.{List, ◌++◌, append_assoc}
use native.Mathlib.Omega.{arith}
use lib.Dec.{eqb}
use lib.ListN.{length, take, drop, length-append, length-drop, take-append-drop}
use lib.Seq.{length-take-le, take_at}
use borrow.Author.Tests.{lt-ltb, le-ltb}
use Rattle.std.specs.List.{starts_with}
use Rattle.std.proofs.lemmas.Bool.Decides.{Decides-eqb}
use Rattle.std.proofs.lemmas.Slice.Eq.{starts_is}
use Rattle.std.proofs.lemmas.List.{take_rest}
use Rattle.definition.specs.Words.{pick, begins_with}
use Rattle.definition.proofs.Match.{by_le, clash, begins_split, begins_of}
use Rattle.utf8.specs.Utf8.{Scalars, encode}
use Rattle.utf8.specs.Places.{size, At}
use Rattle.utf8.proofs.Matches.{iff, front_bytes}
use Rattle.utf8.proofs.Places.{size-append, drop-size}
use Rattle.snowball.specs.Match.{stands_at}
use Rattle.snowball.proofs.Places.{place_inside, place_outside, scalars-drop}

-- ---- a key at the front, by the library's `starts_with`

starts_begins : (r : Bool) (w key : List ℕ) → r ≡ starts_with eqb w key → r ≡ begins_with w key
starts_begins r w key e =
    let s = starts_is Decides-eqb w key r e in
    iff r (begins_with w key) (λ t. begins_of w key (drop (length key) w) (s.0 t)) (λ t. s.1 (drop (length key) w) (begins_split w key t))

-- ---- a key at a place

module _ (t : List ℕ) (n : ℕ) (key : List ℕ) where
  pub stands-inside : n < length t → stands_at t n key ≡ begins_with (drop n t) key
  stands-inside h = ap (λ (b : Bool). pick b (begins_with (drop n t) key) false) (lt-ltb n (length t) h)

  pub stands-end : length t ≤ n → stands_at t n key ≡ false
  stands-end h = ap (λ (b : Bool). pick b (begins_with (drop n t) key) false) (le-ltb n (length t) h)

-- what `text[cursor..].starts_with(key)` finds
pub stands_found : (r : Bool) (t : List ℕ) (n : ℕ) (key : List ℕ) → n < length t → r ≡ starts_with eqb (take (length t - n) (drop n t)) key
    → r ≡ stands_at t n key
stands_found r t n key h e =
    starts_begins r (drop n t) key (e ∙ ap (λ (x : List ℕ). starts_with eqb x key) (take_rest t n)) ∙ sym (stands-inside t n key h)

-- ---- bytes match just where letters do

module _ (t cs : List ℕ) (n i : ℕ) (p : At t n i) where
  pub stands-encode : Scalars t → Scalars cs → stands_at (encode t) i (encode cs) ≡ stands_at t n cs
  stands-encode r s =
      by_le (length t) n
      (λ h.
      let g : size t ≤ i = by_le (size t) i (λ k. k) (λ k. absurd (omega (arith, place_inside t n i p k))) in
      stands-end (encode t) i (encode cs) g ∙ sym (stands-end t n cs h))
      (λ h.
      stands-inside (encode t) i (encode cs) (place_outside t n i p h)
      ∙ ap (λ (x : List ℕ). begins_with x (encode cs)) (ap (λ (k : ℕ). drop k (encode t)) p.1 ∙ drop-size t n)
      ∙ front_bytes (drop n t) cs (scalars-drop t n r) s
      ∙ sym (stands-inside t n cs h))

  -- the place behind a key
  pub place_match : stands_at t n cs ≡ true → At t (n + length cs) (i + size cs)
  place_match e =
      let h : n < length t = by_le (length t) n (λ g. absurd (clash e (stands-end t n cs g))) (λ g. g) in
      let r : List ℕ = drop (length cs) (drop n t) in
      let w : drop n t ≡ cs ++ r = begins_split (drop n t) cs (sym (stands-inside t n cs h) ∙ e) in
      let f : t ≡ take n t ++ cs ++ r =
      sym (take-append-drop n t) ∙ ap (λ (x : List ℕ). take n t ++ x) w ∙ sym (append_assoc (take n t) cs r) in
      let l : length (take n t ++ cs) ≡ n + length cs = length-append (take n t) cs ∙ omega (arith, length-take-le n t p.0) in
      let g : take (n + length cs) t ≡ take n t ++ cs = ap (take (n + length cs)) f ∙ take_at (take n t ++ cs) r (n + length cs) l in (
        omega (arith, length-drop n t, ap length w, length-append cs r),
        sym (ap size g ∙ size-append (take n t) cs ∙ omega (arith, p.1)),
      )
