-- The letters of a text from a place on, one after the other. Assumes nothing.
use mathlib.Core.Path.{◌≡◌, refl, sym, ap, ◌∙◌}
use mathlib.Core.List.{List, [], ◌∷◌, ◌++◌}
use Prim.Native.Nat.{ℕ, ◌+◌, ◌≤◌, ◌<◌}
use native.Mathlib.Omega.{arith}
use lib.ListN.{length, drop, length-append}
use lib.Seq.{drop-drop, drop-append_seam}
use Rattle.utf8.specs.Utf8.{Scalars, encode1, encode}
use Rattle.utf8.proofs.Text.{encode1_pos, encode_injective}
use Rattle.definition.specs.Words.{Word}
use Rattle.utf8.specs.Letters.{LetterAt, SomeLetter, Read}
use Rattle.utf8.specs.declared.letters.Letter.{Letter}
use Rattle.utf8.specs.Spelt.{Encodes}

-- What every letter loop knows: word is what the old text encodes, and rest are its letters that stand in the text from the byte i on.
pub record Ahead (old text : List ℕ) (i : ℕ) : Type 0 where
  pub word : Word
  pub whole : Encodes old word
  pub rest : Word
  pub scalars : Scalars rest
  pub bytes : drop i text ≡ encode rest
  pub ends : i + length (encode rest) ≡ length old

abbrev pub start : (text : List ℕ) (cs : Word) → Encodes text cs → Ahead text text 0
start text cs e = record {
  word = cs;
  whole = e;
  rest = cs;
  scalars = e.0;
  bytes = e.1;
  ends = omega (arith, ap length e.1);
}

no_size : length (encode []) ≡ 0
unfolding encode
no_size = refl

cons_bytes : (c : ℕ) (t : Word) → encode (c ∷ t) ≡ encode1 c ++ encode t
unfolding encode
cons_bytes c t = refl

pub cons_size : (c : ℕ) (t : Word) → length (encode (c ∷ t)) ≡ length (encode1 c) + length (encode t)
cons_size c t = ap length (cons_bytes c t) ∙ length-append (encode1 c) (encode t)

-- the first letter c of rest, and the letters t behind it, which end at limit
pub record Next (text : List ℕ) (i limit : ℕ) (rest : Word) : Type 0 where
  pub c : ℕ
  pub t : Word
  pub is : rest ≡ c ∷ t
  pub at : LetterAt text i c (encode t)
  pub scalars : Scalars t
  pub ends : i + length (encode1 c) + length (encode t) ≡ limit
  pub wide : 1 ≤ length (encode1 c)

module _ (text : List ℕ) (i limit : ℕ) where
  next_of : (rest : Word) → Scalars rest → drop i text ≡ encode rest → i + length (encode rest) ≡ limit → i < limit → Next text i limit rest
  next_of [] s b e h = absurd (omega (arith, e, no_size))
  next_of (c ∷ t) s b e h = record {
    c = c;
    t = t;
    is = refl;
    at = (s.0, b ∙ cons_bytes c t);
    scalars = s.1;
    ends = omega (arith, e, cons_size c t);
    wide = encode1_pos c;
  }

  none_of : (rest : Word) → i + length (encode rest) ≡ limit → limit ≤ i → rest ≡ []
  none_of [] e h = refl
  none_of (c ∷ t) e h = absurd (omega (arith, e, cons_size c t, encode1_pos c))

module _ {old text : List ℕ} {i : ℕ} (v : Ahead old text i) where
  -- the bytes are those of this word only
  pub only : (cs : Word) → Encodes old cs → v.word ≡ cs
  only cs e = encode_injective v.word cs v.whole.0 e.0 (sym v.whole.1 ∙ e.1)

  pub none_left : length old ≤ i → v.rest ≡ []
  none_left = none_of text i (length old) v.rest v.ends

  pub next : i < length old → Next text i (length old) v.rest
  next = next_of text i (length old) v.rest v.scalars v.bytes v.ends

  pub letter : i < length old → SomeLetter text i
  letter h = let n = next h in (n.c, encode n.t, n.at)

  -- the letter at i, read as l, is the next one, and the place behind it lies further on in the text
  module _ (h : i < length old) (l : Letter) (g : Read text i l) where
    pub read_is : (l.code ≡ (next h).c) × (l.width ≡ length (encode1 (next h).c))
    read_is = g (next h).c (encode (next h).t) (next h).at

    pub moves : (i < i + l.width) × (i + l.width ≤ length old)
    moves = omega (arith, read_is.1, (next h).wide, (next h).ends)

  -- past the next letter, also where the text in front has changed
  abbrev pub past : (n : Next text i (length old) v.rest) (new : List ℕ) (j : ℕ) → j ≡ i + length (encode1 n.c) → drop j new ≡ drop j text
      → Ahead old new j
  past n new j e d = record {
    word = v.word;
    whole = v.whole;
    rest = n.t;
    scalars = n.scalars;
    bytes =
        d
        ∙ ap (λ (k : ℕ). drop k text) e
        ∙ sym (drop-drop (length (encode1 n.c)) i text)
        ∙ ap (drop (length (encode1 n.c))) n.at.1
        ∙ drop-append_seam (encode1 n.c) (encode n.t);
    ends = omega (arith, e, n.ends);
  }
