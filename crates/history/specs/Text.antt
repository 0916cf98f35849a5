-- The text of a history: a line for each change, with the step's name, the row's letters and the number of letters left.
use Rattle.std.specs.Prelude.{ℕ, ◌+◌, ◌/◌, ◌%◌, List, [], ◌∷◌, ◌++◌, ltb, decimal}
use Rattle.definition.specs.Words.{Word, pick}
use Rattle.history.specs.Steps.{name, row_of}
use Rattle.history.specs.History.{Change, history}

abbrev pub space : ℕ
space = 0x20

abbrev pub plus : ℕ
plus = 0x2B

abbrev pub lf : ℕ
lf = 0x0A

-- a digit below 16: 0 to 9, then A to F
abbrev pub digit : ℕ → ℕ
digit d = pick (ltb d 10) (0x30 + d) (0x37 + d)

-- a letter below 65536 as four hexadecimal digits
abbrev pub hex : ℕ → List ℕ
hex c = digit (c / 4096) ∷ digit (c / 256 % 16) ∷ digit (c / 16 % 16) ∷ digit (c % 16) ∷ []

-- letters joined by +
unfoldable pub spelt : Word → List ℕ
spelt [] = []
spelt (c ∷ []) = hex c
spelt (c ∷ d ∷ w) = hex c ++ (plus ∷ spelt (d ∷ w))

-- the number is decimal, as the toolchain's library writes it
unfoldable pub line : Change → List ℕ
line c = name c.deed.step ++ (space ∷ (spelt (row_of c.deed) ++ (space ∷ (decimal c.left ++ (lf ∷ [])))))

unfoldable pub text : List Change → List ℕ
text [] = []
text (c ∷ cs) = line c ++ text cs

-- the story of a word as it is typed
unfoldable pub story : Word → List ℕ
story w = text (history w)
