-- Encoded texts: what decodes is one, a text is its bytes' only one, and where bytes match at a letter's start, letters match. Assumes nothing.
use mathlib.Core.Path.{◌≡◌, refl, sym, ap, ◌∙◌, subst}
use Prim.Native.Nat.{ℕ, zero, suc, ◌≤◌, ◌<◌}
use mathlib.Core.Bool.{true}
use mathlib.Core.Logic.{◌⊎◌, inl, inr, ⊎_elim}
use mathlib.Core.List.{List, [], ◌∷◌, ◌++◌, append_assoc, append-nil, head-eq_of_cons-eq, tail-eq_of_cons-eq, nil≢cons, cons≢nil}
use mathlib.Core.Option.{Option, none, some, some-injective}
use native.Mathlib.Omega.{arith}
use lib.ListN.{length, length-append}
use Rattle.definition.proofs.Match.{by_le}
use Rattle.utf8.specs.Utf8.{Scalars, encode1, encode, run, decode, is_some, well_formed}
use Rattle.utf8.proofs.Encoding.{encode1_1, encode1_2, encode1_3, encode1_4, decode-append, decode-encode}
use Rattle.utf8.proofs.Decoding.{Head, head, append?-inv}

-- ---- the bytes of one letter: a lead byte, and then continuation bytes

abbrev pub Lead : ℕ → Type 0
Lead b = (b < 0x80) ⊎ (0xC0 ≤ b)

abbrev pub Conts : List ℕ → Type 0
Conts [] = Unit {0}
Conts (b ∷ bs) = (0x80 ≤ b) × (b < 0xC0) × Conts bs

pub record Shape (c : ℕ) : Type 0 where
  pub b : ℕ
  pub t : List ℕ
  pub is : encode1 c ≡ b ∷ t
  pub lead : Lead b
  pub conts : Conts t

pub shape : (c : ℕ) → Shape c
shape c =
    by_le c 0x7F
    (λ h. record { b = c; t = []; is = encode1_1 c (omega arith); lead = inl (omega arith); conts = tt })
    (λ h. by_le c 0x7FF
    (λ k. record { b = _; t = _; is = encode1_2 c (omega arith) (omega arith); lead = inr (omega arith); conts = (omega arith, omega arith, tt) })
    (λ k. by_le c 0xFFFF
    (λ l. record { b = _; t = _; is = encode1_3 c (omega arith) (omega arith); lead = inr (omega arith); conts = (omega arith, omega arith, (omega arith, omega arith, tt)) })
    (λ l. record { b = _; t = _; is = encode1_4 c (omega arith); lead = inr (omega arith); conts = (omega arith, omega arith, (omega arith, omega arith, (omega arith, omega arith, tt))) })))

pub encode1_pos : (c : ℕ) → 1 ≤ length (encode1 c)
encode1_pos c = rw (shape c).is (omega arith)

-- ---- texts

pub encode-append : (u v : List ℕ) → encode (u ++ v) ≡ encode u ++ encode v
unfolding encode
encode-append [] v = refl
encode-append (c ∷ u) v = ap (λ (x : List ℕ). encode1 c ++ x) (encode-append u v) ∙ sym (append_assoc (encode1 c) (encode u) (encode v))

pub encode_one : (c : ℕ) → encode (c ∷ []) ≡ encode1 c
unfolding encode
encode_one c = append-nil (encode1 c)

pub scalars-append : (u v : List ℕ) → Scalars u → Scalars v → Scalars (u ++ v)
scalars-append [] v s t = t
scalars-append (c ∷ u) v s t = (s.0, scalars-append u v s.1 t)

pub scalars-left : (u v : List ℕ) → Scalars (u ++ v) → Scalars u
scalars-left [] v s = tt
scalars-left (c ∷ u) v s = (s.0, scalars-left u v s.1)

pub scalars_right : (u v : List ℕ) → Scalars (u ++ v) → Scalars v
scalars_right [] v s = s
scalars_right (c ∷ u) v s = scalars_right u v s.1

-- what decodes is the encoding of what it decodes to
sound_n : (n : ℕ) (bs cs : List ℕ) → length bs ≤ n → decode bs ≡ some cs → Scalars cs × (bs ≡ encode cs)
unfolding encode run
sound_n zero [] cs h e = let z : [] ≡ cs = some-injective [] cs e in (subst Scalars z tt, ap encode z)
sound_n zero (b ∷ bs) cs h e = absurd (omega arith)
sound_n (suc n) [] cs h e = let z : [] ≡ cs = some-injective [] cs e in (subst Scalars z tt, ap encode z)
sound_n (suc n) (b ∷ bs) cs h e =
    let w : Head (b ∷ bs) cs = head b bs cs e in
    let l : length (b ∷ bs) ≡ length (encode1 w.c ++ w.r) = ap length w.bytes in
    let ih : Scalars w.t × (w.r ≡ encode w.t) = sound_n n w.r w.t (omega (arith, encode1_pos w.c, length-append (encode1 w.c) w.r)) w.rest in
    (subst Scalars (sym w.chars) (w.scalar, ih.0), w.bytes ∙ ap (λ (x : List ℕ). encode1 w.c ++ x) ih.1 ∙ ap encode (sym w.chars))

pub sound : (bs cs : List ℕ) → decode bs ≡ some cs → Scalars cs × (bs ≡ encode cs)
sound bs cs e = sound_n (length bs) bs cs (omega arith) e

-- bytes are well formed just where they encode a text of scalar values
pub well_formed_text : (bs : List ℕ) → well_formed bs ≡ true → (cs : List ℕ) × Scalars cs × (bs ≡ encode cs)
well_formed_text bs w = some_text (decode bs) refl w
  where
    some_text : (o : Option (List ℕ)) → decode bs ≡ o → is_some o ≡ true → (cs : List ℕ) × Scalars cs × (bs ≡ encode cs)
    some_text none e z = let y : ◌≡◌ {A = ℕ} 0 1 = cc in absurd (omega arith)
    some_text (some cs) e z = let s = sound bs cs e in (cs, s.0, s.1)

pub text_well_formed : (cs : List ℕ) → Scalars cs → well_formed (encode cs) ≡ true
text_well_formed cs s = ap is_some (decode-encode cs s)

pub encode_injective : (u v : List ℕ) → Scalars u → Scalars v → encode u ≡ encode v → u ≡ v
encode_injective u v s t e = some-injective u v (sym (decode-encode u s) ∙ ap decode e ∙ decode-encode v t)

-- ---- a match of bytes at the start of a text is one of letters
pub match_front : (cs key r : List ℕ) → Scalars cs → Scalars key → encode cs ≡ encode key ++ r → (v : List ℕ) × (cs ≡ key ++ v) × (r ≡ encode v)
match_front cs key r s k e =
    let w = append?-inv key (decode r) cs (sym (decode-append key r k) ∙ sym (ap decode e) ∙ decode-encode cs s) in
    (w.0, w.2, (sound r w.0 w.1).1)

-- ---- a cut before a lead byte is a cut between letters

abbrev pub StartsLead : List ℕ → Type 0
StartsLead [] = Unit {0}
StartsLead (b ∷ bs) = Lead b

lead_no_cont : (b : ℕ) → Lead b → 0x80 ≤ b → b < 0xC0 → ⊥
lead_no_cont b l h k = ⊎_elim (λ (w : b < 0x80). omega arith) (λ (w : 0xC0 ≤ b). omega arith) l

peel : (t x p q : List ℕ) → t ++ x ≡ p ++ q → Conts t → StartsLead q → (p' : List ℕ) × (p ≡ t ++ p') × (x ≡ p' ++ q)
peel [] x p q e c l = (p, refl, e)
peel (y ∷ t) x [] [] e c l = absurd (cons≢nil e)
peel (y ∷ t) x [] (b ∷ q) e c l = let z : y ≡ b = head-eq_of_cons-eq e in absurd (lead_no_cont b l (omega arith) (omega arith))
peel (y ∷ t) x (z ∷ p) q e c l =
    let w = peel t x p q (tail-eq_of_cons-eq e) c.2 l in
    let z≡y : y ≡ z = head-eq_of_cons-eq e in
    (w.0, (λ i. sym z≡y i ∷ w.1 i), w.2)

pub cut : (cs p q : List ℕ) → encode cs ≡ p ++ q → StartsLead q → (u : List ℕ) × (v : List ℕ) × (cs ≡ u ++ v) × (p ≡ encode u) × (q ≡ encode v)
unfolding encode
cut [] [] q e l = ([], [], refl, refl, sym e)
cut [] (a ∷ p) q e l = absurd (nil≢cons e)
cut (c ∷ cs) [] q e l = ([], c ∷ cs, refl, refl, sym e)
cut (c ∷ cs) (a ∷ p) q e l =
    let s = shape c in
    let e' : s.b ∷ (s.t ++ encode cs) ≡ a ∷ (p ++ q) = ap (λ (x : List ℕ). x ++ encode cs) (sym s.is) ∙ e in
    let w = peel s.t (encode cs) p q (tail-eq_of_cons-eq e') s.conts l in
    let ih = cut cs w.0 q w.2 l in
    let a≡b : s.b ≡ a = head-eq_of_cons-eq e' in (
      c ∷ ih.0,
      ih.1,
      ap (λ (x : List ℕ). c ∷ x) ih.2,
      (λ i. sym a≡b i ∷ w.1 i) ∙ ap (λ (x : List ℕ). x ++ w.0) (sym s.is) ∙ ap (λ (x : List ℕ). encode1 c ++ x) ih.3,
      ih.4,
    )

pub encode-starts : (cs : List ℕ) → StartsLead (encode cs)
unfolding encode
encode-starts [] = tt
encode-starts (c ∷ cs) = rw (shape c).is (shape c).lead

-- a match of bytes at the end of a text is one of letters
pub match_back : (cs p : List ℕ) (k : ℕ) (key : List ℕ) → Scalars cs → Scalars (k ∷ key) → encode cs ≡ p ++ encode (k ∷ key) → (u : List ℕ) × (cs ≡ u ++ (k ∷ key)) × (p ≡ encode u)
match_back cs p k key s t e =
    let w = cut cs p (encode (k ∷ key)) e (encode-starts (k ∷ key)) in
    let z : w.1 ≡ k ∷ key = encode_injective w.1 (k ∷ key) (scalars_right w.0 w.1 (subst Scalars w.2 s)) t (sym w.4) in
    (w.0, w.2 ∙ ap (λ (x : List ℕ). w.0 ++ x) z, w.3)
