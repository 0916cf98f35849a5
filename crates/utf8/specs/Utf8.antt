-- UTF-8 as the Unicode Standard, Version 14.0, has it in chapter 3: the scalar values (D76), the encoding of one (Table 3-6), the well-formed byte sequences (Table 3-7).
-- A letter is a ℕ, a text a list of them, and bytes are a list of ℕ. Assumes nothing: these are definitions.
use Rattle.std.specs.Prelude.{ℕ, zero, suc, ◌+◌, ◌-◌, ◌*◌, ◌/◌, ◌%◌, ◌≤◌, ◌<◌, List, [], ◌∷◌, ◌++◌, Bool, true, false, ◌⊎◌, ltb, leb, eqb}
use Rattle.std.proofs.Math.Option.{Option, none, some, map}
use Rattle.definition.specs.Words.{pick}

-- ---- letters to bytes

-- 0 to D7FF, and E000 to 10FFFF
abbrev pub Scalar : ℕ → Type 0
Scalar c = (c < 0xD800) ⊎ ((0xE000 ≤ c) × (c < 0x110000))

abbrev pub Scalars : List ℕ → Type 0
Scalars [] = Unit {0}
Scalars (c ∷ cs) = Scalar c × Scalars cs

unfoldable pub encode1 : ℕ → List ℕ
encode1 c =
    pick (ltb c 0x80) (c ∷ [])
    (pick (ltb c 0x800) ((0xC0 + c / 64) ∷ (0x80 + c % 64) ∷ [])
    (pick (ltb c 0x10000) ((0xE0 + c / 4096) ∷ (0x80 + c / 64 % 64) ∷ (0x80 + c % 64) ∷ [])
    ((0xF0 + c / 262144) ∷ (0x80 + c / 4096 % 64) ∷ (0x80 + c / 64 % 64) ∷ (0x80 + c % 64) ∷ [])))

unfoldable pub encode : List ℕ → List ℕ
encode [] = []
encode (c ∷ cs) = encode1 c ++ encode cs

-- ---- bytes to letters

-- where a reader stands: past a whole letter; where k + 1 more bytes are missing, the next of them lo to hi, with the bits a so far; past what is not well formed
pub data State : Type 0 where
  whole : ℕ → State
  more : ℕ → ℕ → ℕ → ℕ → State
  bad : State

-- Table 3-7: a first byte, with the range of the second. The bytes after the second are 80 to BF.
unfoldable pub first : ℕ → State
first b =
    pick (leb b 0x7F) (whole b)
    (pick (leb b 0xC1) bad
    (pick (leb b 0xDF) (more 0 (b - 0xC0) 0x80 0xBF)
    (pick (leb b 0xEF) (more 1 (b - 0xE0) (pick (eqb b 0xE0) 0xA0 0x80) (pick (eqb b 0xED) 0x9F 0xBF))
    (pick (leb b 0xF4) (more 2 (b - 0xF0) (pick (eqb b 0xF0) 0x90 0x80) (pick (eqb b 0xF4) 0x8F 0xBF))
    bad))))

-- six bits more, with k bytes missing after them
unfoldable pub filled : ℕ → ℕ → State
filled zero a = whole a
filled (suc k) a = more k a 0x80 0xBF

unfoldable pub step : State → ℕ → State
step (whole c) b = first b
step (more k a lo hi) b = pick (leb lo b) (pick (leb b hi) (filled k (a * 64 + (b - 0x80))) bad) bad
step bad b = bad

-- the letter that has just ended, in front of the others
unfoldable pub onto : State → Option (List ℕ) → Option (List ℕ)
onto (whole c) r = map (λ (cs : List ℕ). c ∷ cs) r
onto (more k a lo hi) r = r
onto bad r = none

unfoldable pub run : State → List ℕ → Option (List ℕ)
run (whole c) [] = some []
run (more k a lo hi) [] = none
run bad [] = none
run (whole c) (b ∷ bs) = onto (step (whole c) b) (run (step (whole c) b) bs)
run (more k a lo hi) (b ∷ bs) = onto (step (more k a lo hi) b) (run (step (more k a lo hi) b) bs)
run bad (b ∷ bs) = none

-- the letters of well-formed bytes, none of others
abbrev pub decode : List ℕ → Option (List ℕ)
decode bs = run (whole 0) bs

abbrev pub is_some : Option (List ℕ) → Bool
is_some none = false
is_some (some cs) = true

abbrev pub well_formed : List ℕ → Bool
well_formed bs = is_some (decode bs)
