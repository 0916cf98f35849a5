-- Tests that tell whether a letter in bytes is a floating mark or may be one, and a copy of a word in bytes without its marks.
use Rattle.std.specs.Prelude.{ℕ, ◌≤◌, ◌<◌, ◌≡◌, Bool, true, false, List, length, take, get_or}
use Rattle.definition.specs.Words.{Word}
use Rattle.definition.specs.Floating.{floating, unmarked}
use Rattle.utf8.specs.Utf8.{encode}
use Rattle.utf8.specs.Letters.{LetterAt}
use Rattle.utf8.specs.Beside.{at_letters}
use Rattle.places.specs.Places.{typed, places_of, marks_out}

-- b tells whether the letter at the byte i of text is a floating mark
abbrev pub TellsMark : List ℕ → ℕ → Bool → Type 0
TellsMark text i b = (c : ℕ) (t : List ℕ) → LetterAt text i c t → b ≡ floating c

-- b tells whether one of the bytes of text from a place up to another is this byte
abbrev pub TellsByte : ℕ → List ℕ → ℕ → ℕ → Bool → Type 0
TellsByte byte text from to true = (k : ℕ) × (from ≤ k) × (k < to) × (get_or text k 0 ≡ byte)
TellsByte byte text from to false = (k : ℕ) → from ≤ k → k < to → get_or text k 0 ≡ byte → ⊥

-- the first r bytes of new are those of cs without its marks, and beside the first byte of each letter stands its place in cs
pub record TakenOut (cs : Word) (new places : List ℕ) (r : ℕ) : Type 0 where
  pub bytes : take r new ≡ encode (unmarked cs)
  pub sized : r ≡ length (encode (unmarked cs))
  pub within : r ≤ length new
  pub placed : at_letters (unmarked cs) places ≡ places_of (marks_out (typed cs))
