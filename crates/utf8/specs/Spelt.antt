-- A word's bytes, and bytes that are those of some word.
use Rattle.std.specs.Prelude.{ℕ, ◌≡◌, List}
use Rattle.definition.specs.Words.{Word}
use Rattle.utf8.specs.Utf8.{Scalars, encode}

-- the bytes are those of the letters cs
abbrev pub Encodes : List ℕ → Word → Type 0
Encodes bytes cs = Scalars cs × (bytes ≡ encode cs)

-- the bytes are those of some word
pub record Spelt (bytes : List ℕ) : Type 0 where
  pub word : Word
  pub encodes : Encodes bytes word
