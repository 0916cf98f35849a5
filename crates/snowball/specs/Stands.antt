-- When an environment on bytes stands for a text of letters with a cursor.
use Rattle.std.specs.Prelude.{ℕ, ◌≤◌, ◌≡◌, List, Result, Ok, Err, take}
use Rattle.utf8.specs.Utf8.{Scalars, encode}
use Rattle.utf8.specs.Places.{size, At}
use Rattle.utf8.specs.Beside.{at_letters}
use Rattle.snowball.specs.Chars.{Chars, AsWide, slice_from}
use Rattle.snowball.specs.declared.env.Env.{Env}

-- the bytes of the work array
abbrev pub work_size : ℕ
work_size = 340

-- the most changes that are noted
abbrev pub most_changes : ℕ
most_changes = 170

-- the bytes of the longest word that is stemmed
abbrev pub longest_word : ℕ
longest_word = 255

-- The first limit bytes encode the text, beside the first byte of each letter stands its place, and at and behind are the bytes at which
-- the text's cursor and its back lie.
pub record Standing (current places : List ℕ) (limit at behind : ℕ) (s : Chars) : Type 0 where
  pub scalars : Scalars s.text
  pub bytes : take limit current ≡ encode s.text
  pub sized : limit ≡ size s.text
  pub within : limit ≤ work_size
  pub placed : at_letters s.text places ≡ s.places
  pub cursor : At s.text s.cursor at
  pub back : At s.text s.back behind

-- e stands for s. bra and ket do not matter: where only they change, e stands for the same.
abbrev pub Stands : Env → Chars → Type 0
Stands e s = Standing e.current e.places e.limit e.cursor e.limit_backward s

-- e stands for some text
abbrev pub Holds : Env → Type 0
Holds e = (s : Chars) × Stands e s

-- the environment that comes back with either answer
abbrev pub handed_back : Result Env Env → Env
handed_back (Ok e) = e
handed_back (Err e) = e

-- bra and ket are the same in e and r, and so are the changes that are noted
pub record SameMarks (e r : Env) : Type 0 where
  pub bra : r.bra ≡ e.bra
  pub ket : r.ket ≡ e.ket
  pub made : r.made ≡ e.made
  pub changes : r.changes ≡ e.changes

-- Of every text that e stands for: where bra and ket lie at its places b and k, b is not before back, and cs is as wide as the last of the letters
-- from b to k, r stands for the text with these letters replaced by cs.
abbrev pub Sliced : Env → List ℕ → Env → Type 0
Sliced e cs r =
    (s : Chars) → Stands e s → (b k : ℕ) → At s.text b e.bra → At s.text k e.ket → s.back ≤ b → AsWide s.text b k cs → Stands r (slice_from s b k cs)
