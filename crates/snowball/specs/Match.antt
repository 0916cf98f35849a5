-- A key at a place of a text. Said of bytes and of letters alike.
use Rattle.std.specs.Prelude.{ℕ, Bool, false, List, ltb, length, drop}
use Rattle.definition.specs.Words.{pick, begins_with}

-- whether key stands at the place; no key stands at the text's end, not even an empty one
abbrev pub stands_at : List ℕ → ℕ → List ℕ → Bool
stands_at text place key = pick (ltb place (length text)) (begins_with (drop place text) key) false
