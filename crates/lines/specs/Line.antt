-- The bytes that are kept of a line.
use Rattle.std.specs.Prelude.{List, [], ◌∷◌, ◌++◌, ℕ, ltb, length}
use Rattle.definition.specs.Words.{pick}

-- a byte behind the line l, of which room bytes are kept; the tail of a longer line is dropped
unfoldable pub put_behind : ℕ → List ℕ → ℕ → List ℕ
put_behind room l b = pick (ltb (length l) room) (l ++ b ∷ []) l
