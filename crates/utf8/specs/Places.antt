-- Where letters start in bytes.
use Rattle.std.specs.Prelude.{ℕ, zero, suc, ◌≤◌, ◌<◌, Bool, true, false, ◌≡◌, List, [], ◌∷◌, leb, ltb, length, take, get_or}
use Rattle.definition.specs.Words.{pick}
use Rattle.utf8.specs.Utf8.{encode}

-- a byte that starts a letter
abbrev pub starts : ℕ → Bool
starts b = pick (ltb b 0x80) true (leb 0xC0 b)

-- bytes of which the first starts a letter, or none
abbrev pub starts_letter : List ℕ → Bool
starts_letter [] = true
starts_letter (b ∷ bs) = starts b

-- how many letters start in the bytes
abbrev pub leads : List ℕ → ℕ
leads [] = zero
leads (b ∷ bs) = pick (starts b) (suc (leads bs)) (leads bs)

-- how many bytes a text has, encoded
abbrev pub size : List ℕ → ℕ
size cs = length (encode cs)

-- the letter n starts at the byte i, or the text ends there
abbrev pub At : List ℕ → ℕ → ℕ → Type 0
At cs n i = (n ≤ length cs) × (i ≡ size (take n cs))

-- what a walk over bytes finds: the next start of a letter behind at, in the first len bytes of a, or their end
pub record NextStart (a : List ℕ) (len at r : ℕ) : Type 0 where
  pub behind : at < r
  pub inside : r ≤ len
  pub between : (k : ℕ) → at < k → k < r → starts (get_or a k 0) ≡ false
  pub there : r < len → starts (get_or a r 0) ≡ true

-- the last start of a letter before at
pub record LastStart (a : List ℕ) (at r : ℕ) : Type 0 where
  pub before : r < at
  pub between : (k : ℕ) → r < k → k < at → starts (get_or a k 0) ≡ false
  pub there : starts (get_or a r 0) ≡ true
