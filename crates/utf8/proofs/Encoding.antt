-- A text's encoding decodes to it. Assumes nothing.
use mathlib.Core.Path.{◌≡◌, refl, sym, ap, ◌∙◌}
use Prim.Native.Nat.{ℕ, suc, ◌+◌, ◌-◌, ◌*◌, ◌/◌, ◌%◌, ◌≤◌, ◌<◌}
use mathlib.Core.Logic.{◌⊎◌, inl, inr, ⊎_elim}
use mathlib.Core.List.{List, [], ◌∷◌, ◌++◌, append_assoc, append-nil}
use mathlib.Core.Option.{Option, none, some, map}
use native.Mathlib.Omega.{arith}
use lib.Dec.{eqb}
use borrow.Author.Tests.{eqb-true, lt-ltb, le-ltb, le-leb, lt-leb}
use Rattle.definition.specs.Words.{pick}
use Rattle.definition.proofs.Match.{by, by_le}
use Rattle.utf8.specs.Utf8.{Scalar, Scalars, encode1, encode, State, whole, more, bad, first, filled, step, onto, run, decode}

-- ---- tests

pick_le : (b n p q x : ℕ) → (b ≡ n → p ≤ x) → q ≤ x → pick (eqb b n) p q ≤ x
pick_le b n p q x f h = by (eqb b n) (λ e. rw e (f (eqb-true b n e))) (λ e. rw e h)

le_pick : (b n p q x : ℕ) → (b ≡ n → x ≤ p) → x ≤ q → x ≤ pick (eqb b n) p q
le_pick b n p q x f h = by (eqb b n) (λ e. rw e (f (eqb-true b n e))) (λ e. rw e h)

-- ---- encode1, by the length of what it gives

pub encode1_1 : (c : ℕ) → c < 0x80 → encode1 c ≡ c ∷ []
unfolding encode1
encode1_1 c h = rw (lt-ltb c 0x80 h)

pub encode1_2 : (c : ℕ) → 0x80 ≤ c → c < 0x800 → encode1 c ≡ (0xC0 + c / 64) ∷ (0x80 + c % 64) ∷ []
unfolding encode1
encode1_2 c h k = rw (le-ltb c 0x80 h, lt-ltb c 0x800 k)

pub encode1_3 : (c : ℕ) → 0x800 ≤ c → c < 0x10000 → encode1 c ≡ (0xE0 + c / 4096) ∷ (0x80 + c / 64 % 64) ∷ (0x80 + c % 64) ∷ []
unfolding encode1
encode1_3 c h k = rw (le-ltb c 0x80 (omega arith), le-ltb c 0x800 h, lt-ltb c 0x10000 k)

pub encode1_4 : (c : ℕ) → 0x10000 ≤ c → encode1 c ≡ (0xF0 + c / 262144) ∷ (0x80 + c / 4096 % 64) ∷ (0x80 + c / 64 % 64) ∷ (0x80 + c % 64) ∷ []
unfolding encode1
encode1_4 c h = rw (le-ltb c 0x80 (omega arith), le-ltb c 0x800 (omega arith), le-ltb c 0x10000 h)

-- ---- first, by what it says

pub first_1 : (b : ℕ) → b ≤ 0x7F → first b ≡ whole b
unfolding first
first_1 b h = rw (le-leb b 0x7F h)

pub first_no : (b : ℕ) → 0x7F < b → b ≤ 0xC1 → first b ≡ bad
unfolding first
first_no b h k = rw (lt-leb b 0x7F h, le-leb b 0xC1 k)

pub first_2 : (b : ℕ) → 0xC1 < b → b ≤ 0xDF → first b ≡ more 0 (b - 0xC0) 0x80 0xBF
unfolding first
first_2 b h k = rw (lt-leb b 0x7F (omega arith), lt-leb b 0xC1 h, le-leb b 0xDF k)

abbrev pub low3 : ℕ → ℕ
low3 b = pick (eqb b 0xE0) 0xA0 0x80

abbrev pub high3 : ℕ → ℕ
high3 b = pick (eqb b 0xED) 0x9F 0xBF

abbrev pub low4 : ℕ → ℕ
low4 b = pick (eqb b 0xF0) 0x90 0x80

abbrev pub high4 : ℕ → ℕ
high4 b = pick (eqb b 0xF4) 0x8F 0xBF

pub first_3 : (b : ℕ) → 0xDF < b → b ≤ 0xEF → first b ≡ more 1 (b - 0xE0) (low3 b) (high3 b)
unfolding first
first_3 b h k = rw (lt-leb b 0x7F (omega arith), lt-leb b 0xC1 (omega arith), lt-leb b 0xDF h, le-leb b 0xEF k)

pub first_4 : (b : ℕ) → 0xEF < b → b ≤ 0xF4 → first b ≡ more 2 (b - 0xF0) (low4 b) (high4 b)
unfolding first
first_4 b h k = rw (lt-leb b 0x7F (omega arith), lt-leb b 0xC1 (omega arith), lt-leb b 0xDF (omega arith), lt-leb b 0xEF h, le-leb b 0xF4 k)

pub first_over : (b : ℕ) → 0xF4 < b → first b ≡ bad
unfolding first
first_over b h = rw (lt-leb b 0x7F (omega arith), lt-leb b 0xC1 (omega arith), lt-leb b 0xDF (omega arith), lt-leb b 0xEF (omega arith), lt-leb b 0xF4 h)

-- ---- a step and a run

step_in : (k a lo hi b : ℕ) → lo ≤ b → b ≤ hi → step (more k a lo hi) b ≡ filled k (a * 64 + (b - 0x80))
unfolding step
step_in k a lo hi b h l = rw (le-leb lo b h, le-leb b hi l)

pub run-whole : (c d : ℕ) (bs : List ℕ) → run (whole c) bs ≡ run (whole d) bs
unfolding run step
run-whole c d [] = refl
run-whole c d (b ∷ bs) = refl

pub run-first : (b : ℕ) (s : State) (bs : List ℕ) → first b ≡ s → decode (b ∷ bs) ≡ onto s (run s bs)
unfolding run step
run-first b s bs e = rw e

run_more : (k a lo hi b v : ℕ) (bs : List ℕ) → lo ≤ b → b ≤ hi → a * 64 + (b - 0x80) ≡ v
    → run (more k a lo hi) (b ∷ bs) ≡ onto (filled k v) (run (filled k v) bs)
unfolding run
run_more k a lo hi b v bs h l e = rw (step_in k a lo hi b h l, e)

abbrev pub cons? : ℕ → Option (List ℕ) → Option (List ℕ)
cons? c r = map (λ (cs : List ℕ). c ∷ cs) r

-- a letter's encoding decodes to it
pub run_1 : (c : ℕ) (bs : List ℕ) → c ≤ 0x7F → decode (c ∷ bs) ≡ cons? c (decode bs)
unfolding onto
run_1 c bs h = run-first c (whole c) bs (first_1 c h) ∙ ap (cons? c) (run-whole c 0 bs)

run-last : (a lo hi b v : ℕ) (bs : List ℕ) → lo ≤ b → b ≤ hi → a * 64 + (b - 0x80) ≡ v → run (more 0 a lo hi) (b ∷ bs) ≡ cons? v (decode bs)
unfolding onto filled
run-last a lo hi b v bs h l e = run_more 0 a lo hi b v bs h l e ∙ ap (cons? v) (run-whole v 0 bs)

run_next : (k a lo hi b v : ℕ) (bs : List ℕ) → lo ≤ b → b ≤ hi → a * 64 + (b - 0x80) ≡ v → run (more (suc k) a lo hi) (b ∷ bs) ≡ run (more k v 0x80 0xBF) bs
unfolding onto filled
run_next k a lo hi b v bs h l e = run_more (suc k) a lo hi b v bs h l e

pub run_lead : (b k a lo hi : ℕ) (bs : List ℕ) → first b ≡ more k a lo hi → decode (b ∷ bs) ≡ run (more k a lo hi) bs
unfolding onto
run_lead b k a lo hi bs e = run-first b (more k a lo hi) bs e

module _ (c : ℕ) (bs : List ℕ) where
  enc_2 : 0x80 ≤ c → c < 0x800 → decode (encode1 c ++ bs) ≡ cons? c (decode bs)
  enc_2 h k =
      rw (encode1_2 c h k)
      (run_lead (0xC0 + c / 64) 0 (0xC0 + c / 64 - 0xC0) 0x80 0xBF ((0x80 + c % 64) ∷ bs) (first_2 (0xC0 + c / 64) (omega arith) (omega arith))
      ∙ run-last (0xC0 + c / 64 - 0xC0) 0x80 0xBF (0x80 + c % 64) c bs (omega arith) (omega arith) (omega arith))

  enc_3 : 0x800 ≤ c → c < 0x10000 → (c < 0xD800) ⊎ (0xE000 ≤ c) → decode (encode1 c ++ bs) ≡ cons? c (decode bs)
  enc_3 h k s =
      let b : ℕ = 0xE0 + c / 4096 in
      let v : ℕ = c / 64 in
      rw (encode1_3 c h k)
      (run_lead b 1 (b - 0xE0) (low3 b) (high3 b) ((0x80 + c / 64 % 64) ∷ (0x80 + c % 64) ∷ bs) (first_3 b (omega arith) (omega arith))
      ∙ run_next 0 (b - 0xE0) (low3 b) (high3 b) (0x80 + c / 64 % 64) (c / 64) ((0x80 + c % 64) ∷ bs)
      (pick_le b 0xE0 0xA0 0x80 (0x80 + c / 64 % 64) (λ e. omega arith) (omega arith))
      (le_pick b 0xED 0x9F 0xBF (0x80 + c / 64 % 64) (λ e. ⊎_elim (λ (w : c < 0xD800). omega arith) (λ (w : 0xE000 ≤ c). omega arith) s) (omega arith))
      (omega arith)
      ∙ run-last (c / 64) 0x80 0xBF (0x80 + c % 64) c bs (omega arith) (omega arith) (omega arith))

  enc_4 : 0x10000 ≤ c → c < 0x110000 → decode (encode1 c ++ bs) ≡ cons? c (decode bs)
  enc_4 h k =
      let b : ℕ = 0xF0 + c / 262144 in
      rw (encode1_4 c h)
      (run_lead b 2 (b - 0xF0) (low4 b) (high4 b) ((0x80 + c / 4096 % 64) ∷ (0x80 + c / 64 % 64) ∷ (0x80 + c % 64) ∷ bs) (first_4 b (omega arith) (omega arith))
      ∙ run_next 1 (b - 0xF0) (low4 b) (high4 b) (0x80 + c / 4096 % 64) (c / 4096) ((0x80 + c / 64 % 64) ∷ (0x80 + c % 64) ∷ bs)
      (pick_le b 0xF0 0x90 0x80 (0x80 + c / 4096 % 64) (λ e. omega arith) (omega arith))
      (le_pick b 0xF4 0x8F 0xBF (0x80 + c / 4096 % 64) (λ e. omega arith) (omega arith))
      (omega arith)
      ∙ run_next 0 (c / 4096) 0x80 0xBF (0x80 + c / 64 % 64) (c / 64) ((0x80 + c % 64) ∷ bs) (omega arith) (omega arith) (omega arith)
      ∙ run-last (c / 64) 0x80 0xBF (0x80 + c % 64) c bs (omega arith) (omega arith) (omega arith))

  decode-encode1 : Scalar c → decode (encode1 c ++ bs) ≡ cons? c (decode bs)
  decode-encode1 s =
      by_le c 0x7F (λ h. rw (encode1_1 c (omega arith)) (run_1 c bs h))
      (λ h. by_le c 0x7FF (λ k. enc_2 h (omega arith))
      (λ k. by_le c 0xFFFF
      (λ l. enc_3 k (omega arith) (⊎_elim (λ (w : c < 0xD800). inl w) (λ (w : (0xE000 ≤ c) × (c < 0x110000)). inr w.0) s))
      (λ l. enc_4 l (⊎_elim (λ (w : c < 0xD800). omega arith) (λ (w : (0xE000 ≤ c) × (c < 0x110000)). w.1) s))))

abbrev pub append? : List ℕ → Option (List ℕ) → Option (List ℕ)
append? p r = map (λ (cs : List ℕ). p ++ cs) r

cons_append : (c : ℕ) (p : List ℕ) (r : Option (List ℕ)) → cons? c (append? p r) ≡ append? (c ∷ p) r
cons_append c p none = refl
cons_append c p (some cs) = refl

append-nil? : (r : Option (List ℕ)) → r ≡ append? [] r
append-nil? none = refl
append-nil? (some cs) = refl

-- what stands behind an encoded text decodes by itself
pub decode-append : (cs bs : List ℕ) → Scalars cs → decode (encode cs ++ bs) ≡ append? cs (decode bs)
unfolding encode
decode-append [] bs s = append-nil? (decode bs)
decode-append (c ∷ cs) bs s =
    ap decode (append_assoc (encode1 c) (encode cs) bs)
    ∙ decode-encode1 c (encode cs ++ bs) s.0
    ∙ ap (cons? c) (decode-append cs bs s.1)
    ∙ cons_append c cs (decode bs)

-- the letters of an encoded text
pub decode-encode : (cs : List ℕ) → Scalars cs → decode (encode cs) ≡ some cs
unfolding run
decode-encode cs s =
    ap decode (sym (append-nil (encode cs))) ∙ decode-append cs [] s ∙ ap (λ (t : List ℕ). some t) (append-nil cs)
