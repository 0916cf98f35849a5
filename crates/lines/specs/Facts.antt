-- What the main theorems say of bytes and answers.
use Rattle.std.specs.Prelude.{◌≡◌, List, [], ◌∷◌, ℕ, eqb}
use Rattle.definition.specs.Words.{pick}
use Rattle.stemmer.specs.Entries.{Answer, code_of}
use Rattle.lines.specs.Refusals.{refusal}

-- no byte of the list is b
abbrev pub Without : ℕ → List ℕ → Type 0
Without b [] = Unit {0}
Without b (x ∷ xs) = (x ≡ b → ⊥) × Without b xs

-- an answer of the stem entry in bytes: the stem where the code is 0, or `?` and the code in decimal
unfoldable pub shown : Answer → List ℕ → List ℕ
shown a stem = pick (eqb (code_of a) 0) stem (refusal (code_of a))
