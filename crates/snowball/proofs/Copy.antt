-- What `replace_s` makes of the bytes and of the places of the arrays. Assumes nothing.
use mathlib.Core.Path.{◌≡◌, refl, sym, ap, ◌∙◌}
use Prim.Native.Nat.{ℕ, ◌+◌, ◌-◌, ◌≤◌}
use mathlib.Core.List.{List, ◌++◌}
use native.Mathlib.Omega.{arith}
use borrow.Rule.Slice.PartMut.{put_mid}
use lib.ListN.{length, take, drop, length-append, length-drop}
use lib.Seq.{paste, take-paste, take-take, take-length, take-append-le, take-append-add, length-take-le, drop_at}
use Rattle.std.proofs.lemmas.List.{drop-take}
use Rattle.std.proofs.lemmas.Slice.{put_mid-paste}
use Rattle.snowball.specs.Cut.{replaced}

-- what stands between two places goes to another
module _ (cur new : List ℕ) (to from limit : ℕ) (p : from ≤ limit) (q : limit ≤ length cur) (room : to ≤ length cur)
    (e : new ≡ paste cur to (drop from cur) (limit - from)) where
  abbrev count : ℕ
  count = limit - from

  pub halves : take (to + (limit - from)) new ≡ take to cur ++ take (limit - from) (drop from cur)
  halves = ap (take (to + count)) e ∙ take-paste cur to (drop from cur) count room (omega (arith, length-drop from cur))

  -- what stands in front of the place to which it goes stays
  pub kept-front : (n : ℕ) → n ≤ to → take n new ≡ take n cur
  kept-front n h =
      sym (take-take n (to + count) new (omega arith))
      ∙ ap (take n) halves
      ∙ take-append-le n (take to cur) (take count (drop from cur)) (omega (arith, length-take-le to cur room))
      ∙ take-take n to cur h

  pub moved-tail : drop to (take (to + (limit - from)) new) ≡ drop from (take limit cur)
  moved-tail =
      let l : from + count ≡ limit = omega arith in
      ap (drop to) halves
      ∙ drop_at (take to cur) (take count (drop from cur)) to (length-take-le to cur room)
      ∙ sym (drop-take from count cur)
      ∙ ap (λ (k : ℕ). drop from (take k cur)) l

-- what stood from ket to limit goes behind the place of s, and then s behind the first bra bytes
module _ (cur back part s : List ℕ) (bra ket limit : ℕ) (o : bra ≤ ket) (p : ket ≤ limit) (q : limit ≤ length cur)
    (room : limit - (ket - bra) + length s ≤ length cur)
    (eb : back ≡ paste cur (bra + length s) (drop ket cur) (limit - ket)) (ep : part ≡ s) where
  abbrev end : ℕ
  end = bra + length s

  abbrev tail : ℕ
  tail = limit - ket

  pub copied_bytes : take (limit - (ket - bra) + length s) (put_mid bra (bra + length s - bra) back part) ≡ replaced (take limit cur) bra ket s
  copied_bytes =
      let front : List ℕ = take bra (take limit cur) ++ s in
      let stays : take bra back ≡ take bra (take limit cur) = kept-front cur back end ket limit p q (omega arith) eb bra (omega arith) ∙ sym (take-take bra limit cur (omega arith)) in
      let same : put_mid bra (bra + length s - bra) back part ≡ front ++ drop end back =
      put_mid-paste bra (bra + length s - bra) back part s (length s) ep (omega arith) refl
      ∙ (λ i. stays i ++ take-length s i ++ drop end back) in
      let l : length front ≡ end = length-append (take bra (take limit cur)) s ∙ omega (arith, length-take-le limit cur q, length-take-le bra (take limit cur) (omega (arith, length-take-le limit cur q))) in
      let a : limit - (ket - bra) + length s ≡ length front + tail = omega arith in
      (λ i. take (a i) (same i))
      ∙ take-append-add front (drop end back) tail
      ∙ ap (λ (x : List ℕ). front ++ x) (sym (drop-take end tail back) ∙ moved-tail cur back end ket limit p q (omega arith) eb)
