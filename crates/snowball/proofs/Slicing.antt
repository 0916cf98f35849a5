-- Bytes replaced between two places are letters replaced, and so are the places beside them. Assumes nothing.
use mathlib.Core.Path.{◌≡◌, refl, sym, ap, ◌∙◌, subst}
use Prim.Native.Nat.{ℕ, ◌+◌, ◌-◌, ◌≤◌, ◌<◌}
use mathlib.Core.List.{List, [], ◌++◌, append_assoc, append-nil, map-append}
use native.Mathlib.Omega.{arith}
use lib.ListN.{length, take, drop, length-append, length-take, take-append-drop, length-drop, drop_of_length-le}
use lib.Seq.{length-take-le, take-append-le, drop-append-le, take-append-add, take-take, take-add}
use Rattle.utf8.specs.Utf8.{Scalars, encode}
use Rattle.utf8.specs.Places.{size, At}
use Rattle.definition.proofs.Match.{by_le}
use Rattle.utf8.proofs.Text.{encode-append, scalars-append}
use Rattle.utf8.proofs.Places.{take-size, drop-size, size-append, size_up, size_mono, size_strict}
use Rattle.utf8.specs.Beside.{at_letters, widths}
use Rattle.utf8.proofs.Beside.{at_letters-joined, at_letters-take, at_letters-drop, at_letters-front, at_letters-wide, size-wide}
use Rattle.snowball.specs.Cut.{replaced, moved}
use Rattle.snowball.specs.Chars.{Chars, AsWide}
use Rattle.snowball.specs.Stands.{work_size, Stands, Sliced}
use Rattle.snowball.specs.Bytes.{Replaced}
use Rattle.snowball.specs.declared.env.Env.{Env}
use Rattle.snowball.proofs.Cut.{moved-behind, moved_inside, moved_before, tail_bytes}
use Rattle.snowball.proofs.Places.{place-order, scalars-take, scalars-drop}

module _ (t cs : List ℕ) (b k : ℕ) (o : b ≤ k) (l : k ≤ length t) where
  length_new : length (replaced t b k cs) ≡ b + length cs + (length t - k)
  length_new =
      length-append (take b t ++ cs) (drop k t)
      ∙ omega (arith, length-append (take b t) cs, length-take-le b t (omega arith), length-drop k t)

  place-before : (m i : ℕ) → m ≤ b → At t m i → At (replaced t b k cs) m i
  place-before m i h p = (
    omega (arith, length_new),
    p.1 ∙ ap size (sym (
        ap (take m) (append_assoc (take b t) cs (drop k t))
        ∙ take-append-le m (take b t) (cs ++ drop k t) (omega (arith, length-take-le b t (omega arith)))
        ∙ take-take m b t h)),
  )

  place-behind : (m i : ℕ) → k ≤ m → At t m i
      → At (replaced t b k cs) (m - (k - b) + length cs) (i - (size (take k t) - size (take b t)) + size cs)
  place-behind m i h p =
      let x : List ℕ = take (m - k) (drop k t) in
      let f : List ℕ = take b t ++ cs in
      let lf : length f ≡ b + length cs = length-append (take b t) cs ∙ omega (arith, length-take-le b t (omega arith)) in
      let em : m ≡ k + (m - k) = omega arith in
      let en : m - (k - b) + length cs ≡ length f + (m - k) = omega arith in
      let old : size (take m t) ≡ size (take k t) + size x =
      ap size (ap (λ (z : ℕ). take z t) em ∙ take-add k (m - k) t) ∙ size-append (take k t) x in
      let new : take (m - (k - b) + length cs) (f ++ drop k t) ≡ f ++ x =
      ap (λ (z : ℕ). take z (f ++ drop k t)) en ∙ take-append-add f (drop k t) (m - k) in (
        omega (arith, length_new, p.0),
        omega (arith, p.1, old, ap size new, size-append f x, size-append (take b t) cs, size_mono t b k o),
      )

  replaced-bytes : replaced (encode t) (size (take b t)) (size (take k t)) (encode cs) ≡ encode (replaced t b k cs)
  replaced-bytes =
      (λ i. take-size t b i ++ encode cs ++ drop-size t k i)
      ∙ ap (λ (x : List ℕ). x ++ encode (drop k t)) (sym (encode-append (take b t) cs))
      ∙ sym (encode-append (take b t ++ cs) (drop k t))

  replaced-size : size t - (size (take k t) - size (take b t)) + size cs ≡ size (replaced t b k cs)
  replaced-size =
      omega (arith, ap size (take-append-drop k t), size-append (take k t) (drop k t), size_mono t b k o, size-append (take b t ++ cs) (drop k t), size-append (take b t) cs)

  replaced-scalars : Scalars t → Scalars cs → Scalars (replaced t b k cs)
  replaced-scalars s r =
      scalars-append (take b t ++ cs) (drop k t)
      (scalars-append (take b t) cs (scalars-take t b s) r) (scalars-drop t k s)

  -- a place moves on letters as it does on bytes
  moved-place : (m i : ℕ) → At t m i → At (replaced t b k cs) (moved m b k (length cs)) (moved i (size (take b t)) (size (take k t)) (size cs))
  moved-place m i p =
      by_le k m
      (λ h.
      let g : size (take k t) ≤ i = omega (arith, p.1, size_mono t k m h) in
      rw (← moved-behind m b k (length cs) h, ← moved-behind i (size (take b t)) (size (take k t)) (size cs) g)
      (place-behind m i h p))
      (λ h.
      let g : i < size (take k t) = omega (arith, p.1, size_strict t m k h l) in
      by_le m b
      (λ q.
      let y : i ≤ size (take b t) = omega (arith, p.1, size_mono t m b q) in
      rw (← moved_before m b k (length cs) h q, ← moved_before i (size (take b t)) (size (take k t)) (size cs) g y)
      (place-before m i q p))
      (λ q.
      let y : size (take b t) < i = omega (arith, p.1, size_strict t b m q p.0) in
      rw (← moved_inside m b k (length cs) h q, ← moved_inside i (size (take b t)) (size (take k t)) (size cs) g y)
      (place-before b (size (take b t)) (omega arith) (omega arith, refl))))

  -- ps stands beside t, and as many places as bytes go are taken out of it
  module _ (w : AsWide t b k cs) (ps : List ℕ) where
    abbrev kept_from : ℕ
    kept_from = k - length cs

    abbrev out_from : ℕ
    out_from = size (take k t) - size cs

    -- the letters whose places cs has
    abbrev last_ones : List ℕ
    last_ones = drop (k - length cs) (take k t)

    last-size : size (take (k - length cs) t) + size cs ≡ size (take k t)
    last-size =
        omega (
          arith,
          size-wide last_ones cs w.1,
          size-append (take kept_from (take k t)) last_ones,
          ap size (take-append-drop kept_from (take k t)),
          ap size (take-take kept_from k t (omega arith)),
        )

    behind-kept : last_ones ++ drop k t ≡ drop (k - length cs) t
    behind-kept =
        let e : kept_from + length cs ≡ k = omega (arith, w.0) in
        sym (
        ap (drop kept_from) (sym (take-append-drop k t))
        ∙ drop-append-le kept_from (take k t) (drop k t) (omega (arith, length-take-le k t l)))

    wide-behind : widths (cs ++ drop k t) ≡ widths (last_ones ++ drop k t)
    wide-behind = map-append _ cs (drop k t) ∙ ap (λ (x : List ℕ). x ++ widths (drop k t)) (sym w.1) ∙ sym (map-append _ last_ones (drop k t))

    -- rest is what is left of ps
    module _ (rest : List ℕ) (front : take (size (take b t)) rest ≡ take (size (take b t)) ps) (behind : drop (size (take b t)) rest ≡ drop out_from ps) where
      replaced-places : at_letters (replaced t b k cs) rest ≡ replaced (at_letters t ps) b (k - length cs) []
      replaced-places =
          ap (λ (x : List ℕ). at_letters x rest) (append_assoc (take b t) cs (drop k t))
          ∙ at_letters-joined (take b t) (cs ++ drop k t) rest
          ∙ (λ i. at_letters-front (take b t) rest ps (size (take b t)) (omega arith) front i ++ at_letters (cs ++ drop k t) (behind i))
          ∙ (λ i. at_letters-take t ps b (omega arith) i ++ at_letters-wide (cs ++ drop k t) (last_ones ++ drop k t) (drop out_from ps) wide-behind i)
          ∙ (λ i. sym (append-nil (take b (at_letters t ps))) i ++ at_letters (behind-kept i) (drop (out-is i) ps))
          ∙ ap (λ (x : List ℕ). (take b (at_letters t ps) ++ []) ++ x) (at_letters-drop t ps kept_from (omega arith))
        where
          out-is : out_from ≡ size (take (k - length cs) t)
          out-is = omega (arith, last-size)

-- the same where the places of an environment are taken out
module _ (e r : Env) (key cs : List ℕ) (rp : Replaced e e.bra e.ket key r) (ek : key ≡ encode cs)
    (s : Chars) (st : Stands e s) (b k : ℕ) (o : b ≤ k) (pb : At s.text b e.bra) (pk : At s.text k e.ket) (w : AsWide s.text b k cs)
    (fits : r.limit ≡ size (replaced s.text b k cs)) where
  abbrev old : List ℕ
  old = take e.limit e.places

  abbrev left : List ℕ
  left = take r.limit r.places

  left-front : take (size (take b s.text)) (take r.limit r.places) ≡ take (size (take b s.text)) (take e.limit e.places)
  left-front =
      let n : ℕ = size (take b s.text) in
      let inside : n ≤ r.limit = omega (arith, fits, ap size (append_assoc (take b s.text) cs (drop k s.text)), size-append (take b s.text) (cs ++ drop k s.text)) in
      take-take n r.limit r.places inside
      ∙ (λ i. take (sym pb.1 i) r.places) ∙ rp.places_before ∙ (λ i. take (pb.1 i) e.places)
      ∙ sym (take-take n e.limit e.places (omega (arith, st.sized, size_up s.text b)))

  left-behind : drop (size (take b s.text)) (take r.limit r.places) ≡ drop (size (take k s.text) - size cs) (take e.limit e.places)
  left-behind = (λ i. drop (sym pb.1 i) left) ∙ rp.places_behind ∙ (λ i. drop (pk.1 i - length (ek i)) old)

  left-places : at_letters (replaced s.text b k cs) r.places ≡ replaced s.places b (k - length cs) []
  left-places =
      at_letters-front (replaced s.text b k cs) r.places left r.limit (omega (arith, fits)) (sym (take-take r.limit r.limit r.places (omega arith)))
      ∙ replaced-places s.text cs b k o pk.0 w old left left-front left-behind
      ∙ ap (λ (ps : List ℕ). replaced ps b (k - length cs) [])
      (at_letters-front s.text old e.places e.limit (omega (arith, st.sized)) (take-take e.limit e.limit e.places (omega arith)) ∙ st.placed)

-- bytes replaced between two places are letters replaced
pub sliced : (e r : Env) (key cs : List ℕ) → e.bra ≤ e.ket → Replaced e e.bra e.ket key r → r.limit ≤ work_size → Scalars cs → key ≡ encode cs
    → Sliced e cs r
sliced e r key cs o rp room sc ek s st b k pb pk ob wide =
    let t = s.text in
    let b≤k : b ≤ k = place-order t b e.bra pb k e.ket pk o in
    let sized : r.limit ≡ size (replaced t b k cs) =
    rp.limit ∙ (λ i. st.sized i - (pk.1 i - pb.1 i) + length (ek i)) ∙ replaced-size t cs b k b≤k pk.0 in
    record {
      scalars = replaced-scalars t cs b k b≤k pk.0 st.scalars sc;
      bytes = rp.bytes ∙ (λ i. replaced (st.bytes i) (pb.1 i) (pk.1 i) (ek i)) ∙ replaced-bytes t cs b k b≤k pk.0;
      sized = sized;
      within = room;
      placed = left-places e r key cs rp ek s st b k b≤k pb pk wide sized;
      cursor =
          subst (λ (i : ℕ). At (replaced t b k cs) (moved s.cursor b k (length cs)) i)
          (sym (rp.cursor ∙ (λ i. moved e.cursor (pb.1 i) (pk.1 i) (length (ek i)))))
          (moved-place t cs b k b≤k pk.0 s.cursor e.cursor st.cursor);
      back =
          subst (λ (i : ℕ). At (replaced t b k cs) s.back i) (sym rp.limit_backward)
          (place-before t cs b k b≤k pk.0 s.back e.limit_backward ob st.back);
    }

-- the same where what is deleted ends the text, and only limit and the cursor change
module _ (e : Env) (cursor : ℕ) (o : e.bra ≤ e.ket) (z : e.ket ≡ e.limit) (room : e.limit ≤ work_size)
    (m : cursor ≡ moved e.cursor e.bra e.limit 0) where
  abbrev shortened : Env
  shortened =
      record { cursor = cursor; limit = e.bra; limit_backward = e.limit_backward; bra = e.bra; ket = e.ket; made = e.made; current = e.current; places = e.places; changes = e.changes }

  pub cut_tail : Sliced e [] shortened
  unfolding encode
  cut_tail =
      sliced e shortened [] [] o
      (record {
        bytes = tail_bytes e.bra e.limit (omega arith) e.current ∙ ap (λ (k : ℕ). replaced (take e.limit e.current) e.bra k []) (sym z);
        places_before = refl;
        places_behind =
            drop_of_length-le (take e.bra e.places) (omega (arith, length-take e.bra e.places))
            ∙ sym (drop_of_length-le (take e.limit e.places) (omega (arith, length-take e.limit e.places)));
        limit = omega arith;
        cursor = m ∙ ap (λ (k : ℕ). moved e.cursor e.bra k 0) (sym z);
        limit_backward = refl;
        same = record { bra = refl; ket = refl; made = refl; changes = refl };
      })
      (omega arith) tt refl
