-- What a line program writes for an input: an opening mark is skipped, and each line of the rest is answered.
use mathlib.Core.List.{List, [], ◌∷◌, flat_map}
use Rattle.std.specs.Prelude.{ℕ, eqb, length, drop}
use Rattle.definition.specs.Words.{pick, begins_with}

abbrev pub line_feed : ℕ
line_feed = 0x0A

-- the byte order mark
abbrev pub mark : List ℕ
mark = 0xEF ∷ 0xBB ∷ 0xBF ∷ []

-- an opening mark is skipped, once
unfoldable pub skip_mark : List ℕ → List ℕ
skip_mark i = pick (begins_with i mark) (drop (length mark) i) i

-- a byte in front of the first of some lines
unfoldable pub onto : ℕ → List (List ℕ) → List (List ℕ)
onto b [] = (b ∷ []) ∷ []
onto b (l ∷ ls) = (b ∷ l) ∷ ls

-- LF ends a line; a last line with no LF counts if it has a byte
unfoldable pub lines_of : List ℕ → List (List ℕ)
lines_of [] = []
lines_of (b ∷ bs) = pick (eqb b line_feed) ([] ∷ lines_of bs) (onto b (lines_of bs))

-- all that is written for an input, by what answers a line
unfoldable pub output : (List ℕ → List ℕ) → List ℕ → List ℕ
output answer i = flat_map answer (lines_of (skip_mark i))
