-- Numbers beside the bytes of a text: those that stand beside the first byte of each letter.
use Rattle.std.specs.Prelude.{ℕ, ◌+◌, List, [], ◌∷◌, map, length, drop, get_or}
use Rattle.utf8.specs.Utf8.{encode1}

-- of the numbers ps beside the bytes of cs those beside the first byte of each letter
unfoldable pub at_letters : List ℕ → List ℕ → List ℕ
at_letters [] ps = []
at_letters (c ∷ cs) ps = get_or ps 0 0 ∷ at_letters cs (drop (length (encode1 c)) ps)

-- the bytes at which the letters of cs begin, the first at the byte p
unfoldable pub letter_starts : ℕ → List ℕ → List ℕ
letter_starts p [] = []
letter_starts p (c ∷ cs) = p ∷ letter_starts (p + length (encode1 c)) cs

-- how many bytes each letter has
abbrev pub widths : List ℕ → List ℕ
widths cs = map (λ (c : ℕ). length (encode1 c)) cs
