-- Lines, and what answers them.
use Rattle.std.specs.Prelude.{ℕ, List, [], ◌∷◌, ◌++◌, codes, replicate}

-- ALEF LAM MEEM SEEN KAF NOON, of which MEEM SEEN KAF are the stem
abbrev pub word : List ℕ
word = 0xD8 ∷ 0xA7 ∷ 0xD9 ∷ 0x84 ∷ 0xD9 ∷ 0x85 ∷ 0xD8 ∷ 0xB3 ∷ 0xD9 ∷ 0x83 ∷ 0xD9 ∷ 0x86 ∷ []

abbrev pub word_stem : List ℕ
word_stem = 0xD9 ∷ 0x85 ∷ 0xD8 ∷ 0xB3 ∷ 0xD9 ∷ 0x83 ∷ []

unfoldable pub examples : List (List ℕ × List ℕ)
examples =
    -- a story of two lines; the empty word, with no line and no letter
    (word, word ++ codes "\nSuffix Noun Step1b 0646 5\nPrefix Step3a Noun 0627+0644 3\n" ++ word_stem ++ codes "\n\n")
    ∷ ([], codes "\n\n\n")
    -- too long; not well formed
    ∷ (replicate 256 0x61, codes "?1\n\n")
    ∷ (0xFF ∷ [], codes "?2\n\n")
    ∷ []
