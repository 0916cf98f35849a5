-- The line program of stems: a line is answered by its stem or its refusal.
use Rattle.std.specs.Prelude.{ℕ, List, [], ◌∷◌, ◌++◌}
use Rattle.stemmer.specs.Entries.{enough_room, checked, stem_bytes}
use Rattle.lines.specs.Plain.{line_feed}
use Rattle.lines.specs.Refusals.{text_after}

-- the line that answers a line
unfoldable pub answer_line : List ℕ → List ℕ
answer_line w = text_after (checked w) (stem_bytes w) ++ line_feed ∷ []

-- the room that the stem entry is lent
abbrev pub stem_room : ℕ
stem_room = enough_room

-- the most bytes that such a line has: the stem's room and LF
abbrev pub line_room : ℕ
line_room = 341
