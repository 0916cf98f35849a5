-- Places in a text and in its bytes. Assumes nothing.
use mathlib.Core.Path.{◌≡◌, refl, sym, ap, ◌∙◌, subst}
use Prim.Native.Nat.{ℕ, zero, suc, ◌+◌, ◌-◌, ◌≤◌, ◌<◌}
use mathlib.Core.Bool.{true, false}
use mathlib.Core.Logic.{⊎_elim}
use mathlib.Core.List.{List, [], ◌∷◌, ◌++◌, append_assoc}
use native.Mathlib.Omega.{arith}
use native.Mathlib.Numerals.{add-one}
use lib.Dec.{ltb}
use lib.ListN.{length, take, drop, get_or, length-append, take-append-drop, get_or-append}
use lib.Seq.{take_at, drop_at, drop-cons, get_or-append_seam, get_or-append-add, get_or-take, take-suc, take-take}
use borrow.Author.Tests.{lt-ltb, le-ltb, le-leb, lt-leb}
use Rattle.utf8.specs.Utf8.{encode1, encode}
use Rattle.utf8.specs.Places.{starts, leads, size, At, NextStart, LastStart}
use Rattle.definition.proofs.Match.{by, by_le, clash}
use Rattle.utf8.proofs.Text.{Lead, Conts, shape, encode1_pos, encode-append, encode_one}
use Rattle.utf8.proofs.Starts.{leads-append}

-- ---- a cut at a place

pub take-size : (cs : List ℕ) (n : ℕ) → take (size (take n cs)) (encode cs) ≡ encode (take n cs)
take-size cs n =
    ap (take (size (take n cs))) (sym (ap encode (take-append-drop n cs)) ∙ encode-append (take n cs) (drop n cs))
    ∙ take_at (encode (take n cs)) (encode (drop n cs)) (size (take n cs)) refl

pub drop-size : (cs : List ℕ) (n : ℕ) → drop (size (take n cs)) (encode cs) ≡ encode (drop n cs)
drop-size cs n =
    ap (drop (size (take n cs))) (sym (ap encode (take-append-drop n cs)) ∙ encode-append (take n cs) (drop n cs))
    ∙ drop_at (encode (take n cs)) (encode (drop n cs)) (size (take n cs)) refl

pub size-append : (u v : List ℕ) → size (u ++ v) ≡ size u + size v
size-append u v = ap length (encode-append u v) ∙ length-append (encode u) (encode v)

size-one : (c : ℕ) → size (c ∷ []) ≡ length (encode1 c)
size-one c = ap length (encode_one c)

-- the place behind the letter at n
size_next : (cs : List ℕ) (n : ℕ) → n < length cs → size (take (n + 1) cs) ≡ size (take n cs) + length (encode1 (get_or cs n 0))
size_next cs n h =
    ap size (ap (λ (k : ℕ). take k cs) (add-one n) ∙ take-suc cs n 0 h)
    ∙ size-append (take n cs) (get_or cs n 0 ∷ [])
    ∙ ap (λ (k : ℕ). size (take n cs) + k) (size-one (get_or cs n 0))

pub size_up : (cs : List ℕ) (n : ℕ) → size (take n cs) ≤ size cs
size_up cs n = omega (arith, size-append (take n cs) (drop n cs), ap size (take-append-drop n cs))

-- places are in the order of their bytes
pub size_mono : (cs : List ℕ) (m n : ℕ) → m ≤ n → size (take m cs) ≤ size (take n cs)
size_mono cs m n h = subst (λ (x : List ℕ). size x ≤ size (take n cs)) (take-take m n cs h) (size_up (take n cs) m)

pub size_strict : (cs : List ℕ) (m n : ℕ) → m < n → n ≤ length cs → size (take m cs) < size (take n cs)
size_strict cs m n h k =
    omega (arith, size_next cs m (omega arith), encode1_pos (get_or cs m 0), size_mono cs (m + 1) n (omega arith))

-- ---- where letters start

pub starts_lead : (b : ℕ) → Lead b → starts b ≡ true
starts_lead b l =
    ⊎_elim (λ (w : b < 0x80). rw (lt-ltb b 0x80 w) refl)
    (λ (w : 0xC0 ≤ b). by (ltb b 0x80) (λ e. rw e refl) (λ e. rw (e, le-leb 0xC0 b w) refl)) l

starts_cont : (b : ℕ) → 0x80 ≤ b → b < 0xC0 → starts b ≡ false
starts_cont b h k = rw (le-ltb b 0x80 h, lt-leb 0xC0 b k) refl

conts_at : (t : List ℕ) → Conts t → (i : ℕ) → i < length t → starts (get_or t i 0) ≡ false
conts_at [] c i h = absurd (omega arith)
conts_at (b ∷ t) c zero h = starts_cont b c.0 c.1
conts_at (b ∷ t) c (suc i) h = conts_at t c.2 i (omega arith)

module _ (cs : List ℕ) (n : ℕ) (h : n < length cs) where
  split : encode cs ≡ encode (take n cs) ++ encode1 (get_or cs n 0) ++ encode (drop (suc n) cs)
  unfolding encode
  split =
      sym (ap encode (take-append-drop n cs)) ∙ encode-append (take n cs) (drop n cs)
      ∙ ap (λ (x : List ℕ). encode (take n cs) ++ encode x) (drop-cons cs n 0 h)
      ∙ sym (append_assoc (encode (take n cs)) (encode1 (get_or cs n 0)) (encode (drop (suc n) cs)))

  -- at each letter's place one starts
  pub start_at : starts (get_or (encode cs) (size (take n cs)) 0) ≡ true
  start_at =
      let s = shape (get_or cs n 0) in
      ap (λ (x : List ℕ). starts (get_or x (size (take n cs)) 0))
      (split ∙ append_assoc (encode (take n cs)) (encode1 (get_or cs n 0)) (encode (drop (suc n) cs))
      ∙ ap (λ (x : List ℕ). encode (take n cs) ++ (x ++ encode (drop (suc n) cs))) s.is)
      ∙ ap starts (get_or-append_seam (encode (take n cs)) s.b (s.t ++ encode (drop (suc n) cs)) 0)
      ∙ starts_lead s.b s.lead

  -- and within a letter none does
  no_start_at : (k : ℕ) → size (take n cs) < k → k < size (take (n + 1) cs) → starts (get_or (encode cs) k 0) ≡ false
  no_start_at k p q =
      let s = shape (get_or cs n 0) in
      let u = encode (take n cs) in
      let v = encode (drop (suc n) cs) in
      let j : ℕ = k - size (take n cs) - 1 in
      let l : length (encode1 (get_or cs n 0)) ≡ suc (length s.t) = ap length s.is in
      let e : k ≡ size (take n cs) + suc j = omega arith in
      let g : j < length s.t = omega (arith, size_next cs n h) in
      ap (λ (x : List ℕ). starts (get_or x k 0))
      (split ∙ append_assoc u (encode1 (get_or cs n 0)) v ∙ ap (λ (x : List ℕ). u ++ (x ++ v)) s.is)
      ∙ ap (λ (m : ℕ). starts (get_or (u ++ (s.b ∷ (s.t ++ v))) m 0)) e
      ∙ ap starts (get_or-append-add u (s.b ∷ (s.t ++ v)) (suc j) 0)
      ∙ ap starts (get_or-append s.t v 0 j g)
      ∙ conts_at s.t s.conts j g

-- what the walks find
module _ (a cs : List ℕ) (len : ℕ) (e : take len a ≡ encode cs) (len-size : len ≡ size cs) where
  pub same : (k : ℕ) → k < len → get_or a k 0 ≡ get_or (encode cs) k 0
  same k h = sym (get_or-take len a k 0 h) ∙ ap (λ (x : List ℕ). get_or x k 0) e

  pub next_place : (at r n : ℕ) → NextStart a len at r → At cs n at → n < length cs → At cs (n + 1) r
  next_place at r n f p h =
      let q = size (take (n + 1) cs) in
      let up : q ≤ size cs = size_up cs (n + 1) in
      let le : at < q = omega (arith, p.1, size_next cs n h, encode1_pos (get_or cs n 0)) in (
        omega arith,
        by_le r q
            (λ g. by_le q r (λ g'. omega arith)
            (λ g'. let m : r < len = omega (arith, len-size) in
            absurd (clash (f.there m) (ap starts (same r m) ∙ no_start_at cs n h r (omega (arith, p.1, f.behind)) g'))))
            (λ g. let m : q < len = omega (arith, f.inside) in
            let k : n + 1 < length cs = by_le (length cs) (n + 1) (λ k. absurd (omega (arith, len-size, ap size (take_all' cs (n + 1) k)))) (λ k. k) in
            absurd (clash (ap starts (same q m) ∙ start_at cs (n + 1) k) (f.between q le g))),
      )
    where
      take_all' : (l : List ℕ) (i : ℕ) → length l ≤ i → take i l ≡ l
      take_all' l i h = lib.Seq.take_all i l h

  pub last-place : (at r n : ℕ) → LastStart a at r → At cs n at → 0 < n → At cs (n - 1) r
  last-place at r n f p h =
      let q = size (take (n - 1) cs) in
      let i : n - 1 < length cs = omega (arith, p.0) in
      let z : n - 1 + 1 ≡ n = omega arith in
      let up : size (take n cs) ≤ size cs = size_up cs n in
      let nx : at ≡ q + length (encode1 (get_or cs (n - 1) 0)) = p.1 ∙ ap (λ (k : ℕ). size (take k cs)) (sym z) ∙ size_next cs (n - 1) i in
      let le : q < at = omega (arith, encode1_pos (get_or cs (n - 1) 0)) in (
        omega (arith, p.0),
        by_le r q
            (λ g. by_le q r (λ g'. omega arith)
            (λ g'. let m : q < len = omega (arith, len-size, p.1) in
            absurd (clash (ap starts (same q m) ∙ start_at cs (n - 1) i) (f.between q g' le))))
            (λ g. let m : r < len = omega (arith, len-size, p.1, f.before) in
            absurd (clash f.there (ap starts (same r m) ∙ no_start_at cs (n - 1) i r g (omega (arith, f.before, nx, size_next cs (n - 1) i))))),
      )

-- a text has as many letters as bytes that start one
conts_none : (t : List ℕ) → Conts t → leads t ≡ 0
conts_none [] c = refl
conts_none (b ∷ t) c = rw (starts_cont b c.0 c.1) (conts_none t c.2)

pub leads-encode : (cs : List ℕ) → leads (encode cs) ≡ length cs
unfolding encode
leads-encode [] = refl
leads-encode (c ∷ cs) =
    let s = shape c in
    let one : leads (encode1 c) ≡ 1 = ap leads s.is ∙ rw (starts_lead s.b s.lead) (ap suc (conts_none s.t s.conts)) in
    leads-append (encode1 c) (encode cs) ∙ omega (arith, one, leads-encode cs)

-- the first letter starts at byte 0
pub zero_byte : (cs : List ℕ) (n i : ℕ) → At cs n i → n ≡ 0 → i ≡ 0
unfolding encode
zero_byte cs n i p z = p.1 ∙ ap (λ (k : ℕ). size (take k cs)) z
