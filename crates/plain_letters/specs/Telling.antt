-- A test that tells whether a letter in bytes is plain.
use Rattle.std.specs.Prelude.{ℕ, ◌≡◌, Bool, List}
use Rattle.definition.specs.Facts.{plain_letter}
use Rattle.utf8.specs.Letters.{LetterAt}

-- b tells whether the letter at the byte i of text is plain
abbrev pub Tells : List ℕ → ℕ → Bool → Type 0
Tells text i b = (c : ℕ) (t : List ℕ) → LetterAt text i c t → b ≡ plain_letter c
