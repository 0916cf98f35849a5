-- Inputs, and the lines that they have.
use Rattle.std.specs.Prelude.{List, [], ◌∷◌, ◌++◌, ℕ}
use Rattle.lines.specs.Plain.{line_feed, mark}

-- the word of document 01's example
abbrev pub word : List ℕ
word = 0xD8 ∷ 0xA7 ∷ 0xD9 ∷ 0x84 ∷ 0xD9 ∷ 0x83 ∷ 0xD8 ∷ 0xAA ∷ 0xD8 ∷ 0xA7 ∷ 0xD8 ∷ 0xA8 ∷ []

abbrev pub examples : List (List ℕ × List (List ℕ))
examples =
    -- document 01's example
    (mark ++ word ++ line_feed ∷ 0x21 ∷ line_feed ∷ 0xFF ∷ line_feed ∷ [], word ∷ (0x21 ∷ []) ∷ (0xFF ∷ []) ∷ [])
    -- nothing, and nothing behind the mark
    ∷ ([], [])
    ∷ (mark, [])
    -- a last line with no LF; an empty line
    ∷ (mark ++ word, word ∷ [])
    ∷ (line_feed ∷ word, [] ∷ word ∷ [])
    -- the mark is skipped once, and only where it opens the input and is whole
    ∷ (mark ++ mark, mark ∷ [])
    ∷ (line_feed ∷ mark, [] ∷ mark ∷ [])
    ∷ (0xEF ∷ 0xBB ∷ line_feed ∷ 0xBF ∷ [], (0xEF ∷ 0xBB ∷ []) ∷ (0xBF ∷ []) ∷ [])
    ∷ []
