-- The search for a mark, which passes letters that begin with another byte than EF, and a word without a byte that every mark has. Assumes nothing.
use mathlib.Core.Path.{◌≡◌, refl, sym, ap, ◌∙◌, subst}
use mathlib.Core.Bool.{Bool, true, false, not}
use mathlib.Core.List.{List, [], ◌∷◌, ◌++◌}
use Prim.Native.Nat.{ℕ, suc, ◌+◌, ◌≤◌, ◌<◌}
use native.Mathlib.Omega.{arith}
use lib.Dec.{eqb}
use lib.ListN.{length, drop, get_or, length-append}
use lib.Seq.{drop-drop, drop-append-add, get_or-drop}
use borrow.Author.Tests.{eqb-true, eqb-false, ne_eqb}
use Rattle.std.specs.List.{position_or_len}
use Rattle.std.proofs.lemmas.List.{get_or-append-add}
use Rattle.std.proofs.lemmas.List.Sums.{passes_at_first}
use Rattle.definition.specs.Words.{Word, both}
use Rattle.definition.specs.Floating.{floating, no_mark}
use Rattle.definition.proofs.Match.{by}
use Rattle.utf8.specs.Utf8.{Scalars, encode1, encode}
use Rattle.utf8.specs.Letters.{SomeLetter}
use Rattle.utf8.specs.Spelt.{Encodes, Spelt}
use Rattle.utf8.proofs.Text.{Conts, Shape, shape}
use Rattle.utf8.proofs.Ahead as ahead
use Rattle.utf8.proofs.Ahead.{Ahead, Next, cons_size}
use Rattle.floating_marks.specs.Marked.{TellsMark, TellsByte}
use Rattle.floating_marks.proofs.Bytes.{InMarks, first_in_marks, three-bytes}

-- ---- the place of a byte

-- how many bytes stand before the first byte EF
abbrev pub before_EF : List ℕ → ℕ
before_EF xs = position_or_len (λ b. eqb b 0xEF) xs

-- where it is found, it stands
found : (xs : List ℕ) → before_EF xs < length xs → get_or xs (before_EF xs) 0 ≡ 0xEF
found xs h = eqb-true (get_or xs (before_EF xs) 0) 0xEF (passes_at_first (λ b. eqb b 0xEF) xs 0 h)

-- a first byte that is another is passed, and so are the bytes behind a letter's first
other-first : (x : ℕ) (xs : List ℕ) → (x ≡ 0xEF → ⊥) → before_EF (x ∷ xs) ≡ suc (before_EF xs)
other-first x xs n = rw (ne_eqb x 0xEF n) (omega arith)

behind-first : (ts xs : List ℕ) → Conts ts → before_EF (ts ++ xs) ≡ length ts + before_EF xs
behind-first [] xs c = sym (let e : 0 + before_EF xs ≡ before_EF xs = omega arith in e)
behind-first (t ∷ ts) xs c =
    let e = other-first t (ts ++ xs) (λ q. omega arith) in
    let r = behind-first ts xs c.2 in
    omega (arith, e, r)

-- ---- the letters in front of the first byte EF

-- k bytes are passed, those of letters that are no marks: left are the others
record Passed (rest : Word) (k : ℕ) : Type 0 where
  left : Word
  scalars : Scalars left
  bytes : drop k (encode rest) ≡ encode left
  size : k + length (encode left) ≡ length (encode rest)
  same : no_mark rest ≡ no_mark left

other-letter : (c : ℕ) (t : List ℕ) → (get_or (encode1 c ++ t) 0 0 ≡ 0xEF → ⊥) → floating c ≡ false
other-letter c t n = by (floating c) (λ f. absurd (n (first_in_marks c t f).1)) (λ f. f)

module _ (c : ℕ) (t : Word) (s : Scalars (c ∷ t)) where
  abbrev sh : Shape c
  sh = shape c

  letter_bytes : encode (c ∷ t) ≡ sh.b ∷ (sh.t ++ encode t)
  unfolding encode
  letter_bytes = ap (λ (x : List ℕ). x ++ encode t) sh.is

  at_EF : sh.b ≡ 0xEF → Passed (c ∷ t) (before_EF (encode (c ∷ t)))
  at_EF e =
      let z : before_EF (encode (c ∷ t)) ≡ 0 = ap before_EF letter_bytes ∙ ap (λ (b : ℕ). before_EF (b ∷ (sh.t ++ encode t))) e in
      record { left = c ∷ t; scalars = s; bytes = rw z refl; size = omega (arith, z); same = refl }

  past_letter : (sh.b ≡ 0xEF → ⊥) → Passed t (before_EF (encode t)) → Passed (c ∷ t) (before_EF (encode (c ∷ t)))
  unfolding encode
  past_letter n p =
      let w : length (encode1 c) ≡ suc (length sh.t) = ap length sh.is in
      let z : before_EF (encode (c ∷ t)) ≡ length (encode1 c) + before_EF (encode t) =
      ap before_EF letter_bytes ∙ other-first sh.b (sh.t ++ encode t) n ∙ ap suc (behind-first sh.t (encode t) sh.conts) ∙ omega (arith, w) in
      record {
        left = p.left;
        scalars = p.scalars;
        bytes = ap (λ (k : ℕ). drop k (encode (c ∷ t))) z ∙ drop-append-add (encode1 c) (encode t) (before_EF (encode t)) ∙ p.bytes;
        size = omega (arith, z, p.size, cons_size c t);
        same = ap (λ (b : Bool). both (not b) (no_mark t)) (other-letter c (encode t) (λ e. n (sym (ap (λ (x : List ℕ). get_or (x ++ encode t) 0 0) sh.is) ∙ e))) ∙ p.same;
      }

passed : (rest : Word) → Scalars rest → Passed rest (before_EF (encode rest))
unfolding encode
passed [] s = record { left = []; scalars = tt; bytes = refl; size = omega arith; same = refl }
passed (c ∷ t) s = by (eqb (shape c).b 0xEF) (λ e. at_EF c t s (eqb-true (shape c).b 0xEF e)) (λ e. past_letter c t s (eqb-false (shape c).b 0xEF e) (passed t s.1))

-- ---- the scan

-- The letters from i on; the word has a mark if they have one.
pub record Reached (text : List ℕ) (i : ℕ) : Type 0 where
  pub to : Ahead text text i
  pub same : no_mark to.word ≡ no_mark to.rest

-- The scan's invariant: that, and the next of them begins with EF.
pub record Inv (text : List ℕ) (i : ℕ) : Type 0 where
  pub reached : Reached text i
  pub first : i < length text → get_or text i 0 ≡ 0xEF

-- the search from i on ends at r
module _ {text : List ℕ} {i : ℕ} (v : Reached text i) (r : ℕ) (e : r ≡ i + before_EF (drop i text)) where
  place : r ≡ i + before_EF (encode v.to.rest)
  place = e ∙ ap (λ (x : List ℕ). i + before_EF x) v.to.bytes

  abbrev p : Passed v.to.rest (before_EF (encode v.to.rest))
  p = passed v.to.rest v.to.scalars

  from_i : drop r text ≡ drop (before_EF (encode v.to.rest)) (encode v.to.rest)
  from_i =
      ap (λ (k : ℕ). drop k text) place
      ∙ sym (drop-drop (before_EF (encode v.to.rest)) i text)
      ∙ ap (drop (before_EF (encode v.to.rest))) v.to.bytes

  pub searched : Inv text r
  searched = record {
    reached = record {
      to = record {
        word = v.to.word;
        whole = v.to.whole;
        rest = p.left;
        scalars = p.scalars;
        bytes = from_i ∙ p.bytes;
        ends = omega (arith, place, p.size, v.to.ends);
      };
      same = v.same ∙ p.same;
    };
    first = λ h.
        ap (λ (k : ℕ). get_or text k 0) place
        ∙ sym (get_or-drop i text (before_EF (encode v.to.rest)) 0)
        ∙ ap (λ (x : List ℕ). get_or x (before_EF (encode v.to.rest)) 0) v.to.bytes
        ∙ found (encode v.to.rest) (omega (arith, place, v.to.ends));
  }

at_front : (text : List ℕ) → Spelt text → Reached text 0
at_front text s = record { to = ahead.start text s.word s.encodes; same = refl }

pub start : (text : List ℕ) → Spelt text → (r : ℕ) → r ≡ 0 + before_EF (drop 0 text) → Inv text r
start text s = searched (at_front text s)

module _ {text : List ℕ} {i : ℕ} (v : Inv text i) where
  of_word : (b : Bool) → b ≡ not (no_mark v.reached.to.word) → (cs : Word) → Encodes text cs → b ≡ not (no_mark cs)
  of_word b h cs e = h ∙ ap (λ (w : Word). not (no_mark w)) (ahead.only v.reached.to cs e)

  pub none : length text ≤ i → (cs : Word) → Encodes text cs → false ≡ not (no_mark cs)
  none h = of_word false (sym (ap not (v.reached.same ∙ ap no_mark (ahead.none_left v.reached.to h))))

  module _ (h : i < length text) where
    pub next : Next text i (length text) v.reached.to.rest
    next = ahead.next v.reached.to h

    pub letter : SomeLetter text i
    letter = ahead.letter v.reached.to h

    -- it has three bytes
    wide : length (encode1 next.c) ≡ 3
    wide = three-bytes text i next.c (encode next.t) next.at (v.first h)

    pub inside : i + 3 ≤ length text
    inside = omega (arith, wide, next.ends)

    -- b tells whether it is a mark
    module _ (b : Bool) (f : TellsMark text i b) where
      by_letter : no_mark v.reached.to.word ≡ both (not b) (no_mark next.t)
      by_letter =
          v.reached.same ∙ ap no_mark next.is
          ∙ ap (λ (x : Bool). both (not x) (no_mark next.t)) (sym (f next.c (encode next.t) next.at))

      pub there : b ≡ true → (cs : Word) → Encodes text cs → true ≡ not (no_mark cs)
      there e = of_word true (sym (ap not (by_letter ∙ ap (λ (x : Bool). both (not x) (no_mark next.t)) e)))

      pub turn : b ≡ false → (r : ℕ) → r ≡ i + 3 + before_EF (drop (i + 3) text) → Inv text r
      turn e = searched (record {
        to = ahead.past v.reached.to next text (i + 3) (ap (λ (x : ℕ). i + x) (sym wide)) refl;
        same = by_letter ∙ ap (λ (x : Bool). both (not x) (no_mark next.t)) e;
      })

-- ---- a word without a byte b that every mark has at a place i has no mark
module _ (b i : ℕ) (in_marks : InMarks b i) where
  abbrev Without : List ℕ → Type 0
  Without bytes = (k : ℕ) → k < length bytes → get_or bytes k 0 ≡ b → ⊥

  without : (cs : Word) → Scalars cs → Without (encode cs) → no_mark cs ≡ true
  unfolding encode
  without [] s n = refl
  without (c ∷ t) s n =
      let z = length-append (encode1 c) (encode t) in
      let e : floating c ≡ false = by (floating c) (λ f. let m = in_marks c (encode t) f in absurd (n i m.0 m.1)) (λ f. f) in
      let r : Without (encode t) = λ k h q. n (length (encode1 c) + k) (omega (arith, z)) (get_or-append-add (encode1 c) (encode t) k 0 ∙ q) in
      ap (λ (x : Bool). both (not x) (no_mark t)) e ∙ without t s.1 r

  pub none_without : (text : List ℕ) → Without text → (found : Bool) → found ≡ false → (cs : Word) → Encodes text cs → found ≡ not (no_mark cs)
  none_without text f found e cs t = e ∙ sym (ap not (without cs t.0 (subst Without t.1 f)))

pub no_first : (text : List ℕ) → TellsByte 0xEF text 0 (length text) false → (cs : Word) → Encodes text cs → false ≡ not (no_mark cs)
no_first text t = none_without 0xEF 0 first_in_marks text (λ k h e. t k (omega arith) h e) false refl
