-- Letters of a text that are plain, one and all of them. Assumes nothing.
use mathlib.Core.Path.{◌≡◌, refl, sym, ap, ◌∙◌}
use mathlib.Core.Bool.{Bool, true, false}
use mathlib.Core.List.{List}
use Prim.Native.Nat.{ℕ, ◌+◌, ◌≤◌, ◌<◌}
use native.Mathlib.Omega.{arith}
use lib.ListN.{length}
use Rattle.definition.specs.Words.{Word, both, every}
use Rattle.definition.specs.Facts.{plain_letter}
use Rattle.utf8.specs.Utf8.{encode1, encode}
use Rattle.plain_letters.specs.Telling.{Tells}
use Rattle.plain_letters.proofs.Ranges.{width}
use Rattle.utf8.specs.Spelt.{Encodes, Spelt}
use Rattle.utf8.proofs.Ahead as ahead
use Rattle.utf8.proofs.Ahead.{Ahead, Next}

-- b tells whether the next letter is plain
module _ {text : List ℕ} {i limit : ℕ} {rest : Word} (n : Next text i limit rest) (b : Bool) (f : Tells text i b) where
  pub told : b ≡ plain_letter n.c
  told = f n.c (encode n.t) n.at

  -- a plain one has two bytes
  pub two_bytes : b ≡ true → length (encode1 n.c) ≡ 2
  two_bytes e = width text i n.c (encode n.t) n.at (sym told ∙ e)

  pub two-inside : b ≡ true → i + 2 ≤ limit
  two-inside e = omega (arith, two_bytes e, n.ends)

-- The scan's invariant: the word is plain if the letters from i on are.
pub record Inv (text : List ℕ) (i : ℕ) : Type 0 where
  pub to : Ahead text text i
  pub same : every plain_letter to.word ≡ every plain_letter to.rest

pub start : (text : List ℕ) → Spelt text → Inv text 0
start text s = record { to = ahead.start text s.word s.encodes; same = refl }

module _ {text : List ℕ} {i : ℕ} (v : Inv text i) where
  of_word : (b : Bool) → b ≡ every plain_letter v.to.word → (cs : Word) → Encodes text cs → b ≡ every plain_letter cs
  of_word b h cs e = h ∙ ap (every plain_letter) (ahead.only v.to cs e)

  pub done : length text ≤ i → (cs : Word) → Encodes text cs → true ≡ every plain_letter cs
  done h = of_word true (sym (v.same ∙ ap (every plain_letter) (ahead.none_left v.to h)))

  module _ (h : i < length text) where
    pub next : Next text i (length text) v.to.rest
    next = ahead.next v.to h

    module _ (b : Bool) (f : Tells text i b) where
      -- all are plain if this one and those behind it are
      first : every plain_letter v.to.word ≡ both b (every plain_letter next.t)
      first = v.same ∙ ap (every plain_letter) next.is ∙ ap (λ (x : Bool). both x (every plain_letter next.t)) (sym (told next b f))

      pub stopped : b ≡ false → (cs : Word) → Encodes text cs → false ≡ every plain_letter cs
      stopped e = of_word false (sym (first ∙ ap (λ (x : Bool). both x (every plain_letter next.t)) e))

      pub turn : b ≡ true → Inv text (i + 2)
      turn e =
          record {
            to = ahead.past v.to next text (i + 2) (ap (λ (x : ℕ). i + x) (sym (two_bytes next b f e))) refl;
            same = first ∙ ap (λ (x : Bool). both x (every plain_letter next.t)) e;
          }
