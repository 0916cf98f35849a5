-- The bytes of one letter.
use Rattle.std.specs.Prelude.{ℕ, ◌≡◌, List}
use Rattle.utf8.specs.Utf8.{Scalar, encode1}

-- the bytes are those of the letter c
pub record LetterIs (bytes : List ℕ) (c : ℕ) : Type 0 where
  pub scalar : Scalar c
  pub same : bytes ≡ encode1 c
