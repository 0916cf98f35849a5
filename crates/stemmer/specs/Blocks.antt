-- What the laws for index builders speak of: the output of a call, two calls into one output, a result that is handed in again, and their examples.
use Rattle.std.specs.Prelude.{ℕ, ◌+◌, ◌-◌, ◌≡◌, true, List, [], ◌∷◌, ◌++◌, length, take, drop, replicate, Ok, Err}
use Rattle.utf8.specs.Utf8.{encode, well_formed}
use Rattle.definition.specs.Letters.{alef_hamza_above, beh}
use Rattle.definition.specs.Words.{Word}
use Rattle.stemmer.specs.Entries.{Answer, code_of, count_of, bytes_of, checked, answer, out_after}

-- ---- one call: f is stem, normalise or finish

-- every byte of the output afterwards
abbrev pub out_of : (Word → Word) → List ℕ → List ℕ → List ℕ
out_of f word old = out_after (answer f word (length old)) (bytes_of f word) old

-- as many of them as the answer counts, and those behind
abbrev pub written : (Word → Word) → List ℕ → List ℕ → List ℕ
written f word old = take (count_of (answer f word (length old))) (out_of f word old)

abbrev pub behind : (Word → Word) → List ℕ → List ℕ → List ℕ
behind f word old = drop (count_of (answer f word (length old))) (out_of f word old)

-- ---- two calls

-- the answer, with m bytes more if it is no refusal
abbrev pub added : ℕ → Answer → Answer
added m (Ok n) = Ok (m + n)
added m (Err e) = Err e

-- the first answer and, if it is no refusal, the second, which goes by the first one's count: both counts added, or the refusal
abbrev pub in_turn : Answer → (ℕ → Answer) → Answer
in_turn (Ok m) second = added m (second m)
in_turn (Err e) second = Err e

-- u and v joined are a word, and one call for them answers what two calls answer, the second with the bytes behind the first's count as its output; with code 0
-- it leaves the same output
pub record Joins (f : Word → Word) (u v : List ℕ) : Type 0 where
  pub formed : well_formed (u ++ v) ≡ true
  pub accepted : checked (u ++ v) ≡ Ok tt
  pub bytes : bytes_of f (u ++ v) ≡ bytes_of f u ++ bytes_of f v
  pub answers : (room : ℕ) → answer f (u ++ v) room ≡ in_turn (answer f u room) (λ (m : ℕ). answer f v (room - m))
  pub outputs : (old : List ℕ) → code_of (answer f (u ++ v) (length old)) ≡ 0 → out_of f (u ++ v) old ≡ written f u old ++ out_of f v (behind f u old)

-- what f gives for a word, handed in again, is a word that gives itself, with the same answer and the same output, whatever output is lent
pub record Again (f : Word → Word) (word : List ℕ) : Type 0 where
  pub accepted : checked (bytes_of f word) ≡ Ok tt
  pub bytes : bytes_of f (bytes_of f word) ≡ bytes_of f word
  pub answers : (room : ℕ) → answer f (bytes_of f word) room ≡ answer f word room
  pub outputs : (old : List ℕ) → out_of f (bytes_of f word) old ≡ out_of f word old

-- ---- examples

-- 64 times the ligature FEFB, which has 3 bytes and becomes 0644 0627, 4 bytes
abbrev pub ligatures : List ℕ
ligatures = encode (replicate 64 0xFEFB)

-- 0623, and 0628
abbrev pub alef_block : List ℕ
alef_block = encode (alef_hamza_above ∷ [])

abbrev pub beh_block : List ℕ
beh_block = encode (beh ∷ [])
