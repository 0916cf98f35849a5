-- Item 5 of document 01: the last letter, and the other letters. Its halves are those of r_Normalize_post in the Rust, rust-stemmers 1.2.0.
use Rattle.std.specs.Prelude.{ℕ, List, [], ◌∷◌, map, eqb, leb}
use Rattle.definition.specs.Letters.{hamza, alef_madda, alef_hamza_above, waw_hamza, alef_hamza_below, yeh_hamza, alef, waw, yeh}
use Rattle.definition.specs.Words.{Word, pick, both}
use Rattle.definition.specs.Tries.{all_of}

-- 0622 to 0626 become 0621
unfoldable pub last : ℕ → ℕ
last c = pick (both (leb alef_madda c) (leb c yeh_hamza)) hamza c

-- 0622, 0623 and 0625 become 0627, 0624 becomes 0648, 0626 becomes 064A
unfoldable pub other : ℕ → ℕ
other c =
    pick (eqb c alef_madda) alef
    (pick (eqb c alef_hamza_above) alef
    (pick (eqb c waw_hamza) waw
    (pick (eqb c alef_hamza_below) alef
    (pick (eqb c yeh_hamza) yeh c))))

-- the first half: the last letter changes as a last letter
abbrev pub last_letter : Word → Word
last_letter [] = []
last_letter (c ∷ []) = last c ∷ []
last_letter (c ∷ d ∷ w) = c ∷ last_letter (d ∷ w)

-- The second half: each letter changes as another. The last one does not change again, since the first half leaves none of 0622 to 0626 there.
abbrev pub all_letters : Word → Word
all_letters w = map other w

-- the first half, then the second
abbrev pub finish_in_turn : List (Word → Word)
finish_in_turn = last_letter ∷ all_letters ∷ []

unfoldable pub finish : Word → Word
finish w = all_of finish_in_turn w
