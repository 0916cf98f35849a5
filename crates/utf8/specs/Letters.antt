-- Letters in bytes: the letter at a place, and bytes that are written.
use Rattle.std.specs.Prelude.{ℕ, ◌+◌, ◌≡◌, List, ◌++◌, length, take, drop}
use Rattle.utf8.specs.Utf8.{Scalar, encode1}
use Rattle.utf8.specs.declared.letters.Letter.{Letter}

-- the letter c stands at the byte i of text, with the bytes t behind it
abbrev pub LetterAt : List ℕ → ℕ → ℕ → List ℕ → Type 0
LetterAt text i c t = Scalar c × (drop i text ≡ encode1 c ++ t)

-- some letter stands at the byte i of text
abbrev pub SomeLetter : List ℕ → ℕ → Type 0
SomeLetter text i = (c : ℕ) × (t : List ℕ) × LetterAt text i c t

-- l is the letter that stands at the byte i of text
abbrev pub Read : List ℕ → ℕ → Letter → Type 0
Read text i l = (c : ℕ) (t : List ℕ) → LetterAt text i c t → (l.code ≡ c) × (l.width ≡ length (encode1 c))

-- The bytes bs are written over old from the place at on, which gives new. r is the place behind them.
pub record Wrote (old : List ℕ) (at : ℕ) (bs : List ℕ) (new : List ℕ) (r : ℕ) : Type 0 where
  pub end : r ≡ at + length bs
  pub bytes : take r new ≡ take at old ++ bs
  pub rest : drop r new ≡ drop r old
  pub size : length new ≡ length old
