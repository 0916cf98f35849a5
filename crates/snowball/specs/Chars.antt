-- A text of letters, each with the place in the typed word that it came from, and a cursor; and what the functions of an environment do to them.
use Rattle.std.specs.Prelude.{ℕ, ◌+◌, ◌-◌, ◌≤◌, ◌≡◌, List, [], length, take, drop}
use Rattle.definition.specs.Words.{pick}
use Rattle.utf8.specs.Beside.{letter_starts, widths}
use Rattle.snowball.specs.Cut.{replaced, moved}
use Rattle.snowball.specs.Match.{stands_at}

-- the text, for each of its letters a place in the typed word, and two places between its letters: the cursor, and how far a search backward may go
pub record Chars : Type 0 where
  pub text : List ℕ
  pub places : List ℕ
  pub cursor : ℕ
  pub back : ℕ

-- a new text: the cursor in front, and a search backward may go all the way
abbrev pub started : List ℕ → List ℕ → Chars
started cs ps = record { text = cs; places = ps; cursor = 0; back = 0 }

-- a word as it is typed: each letter has the byte at which it begins
abbrev pub fresh : List ℕ → Chars
fresh cs = started cs (letter_starts 0 cs)

-- the same text with another cursor
abbrev pub with_cursor : Chars → ℕ → Chars
with_cursor s n = record { text = s.text; places = s.places; cursor = n; back = s.back }

-- key has at most as many letters as stand from b to k, and the last of these are as wide as they, letter for letter
abbrev pub AsWide : List ℕ → ℕ → ℕ → List ℕ → Type 0
AsWide text b k key = (b + length key ≤ k) × (widths (drop (k - length key) (take k text)) ≡ widths key)

-- The letters from b to k replaced by key. As many places as letters go are taken out at b: key has the places of the last letters that it replaces.
abbrev pub slice_from : Chars → ℕ → ℕ → List ℕ → Chars
slice_from s b k key =
    record { text = replaced s.text b k key; places = replaced s.places b (k - length key) []; cursor = moved s.cursor b k (length key); back = s.back }

-- the cursor behind key, if key stands at the cursor
abbrev pub eq_s : Chars → List ℕ → Chars
eq_s s key = pick (stands_at s.text s.cursor key) (with_cursor s (s.cursor + length key)) s
