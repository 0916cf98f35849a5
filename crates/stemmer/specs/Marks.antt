-- What the entries answer for a word and for the same word without its floating marks, and for marks alone (request A5).
use Rattle.std.specs.Prelude.{ℕ, ◌≡◌, List, [], length, replicate, Ok}
use Rattle.utf8.specs.Utf8.{encode}
use Rattle.definition.specs.Kind.{OPEN}
use Rattle.definition.specs.Normal.{normalise}
use Rattle.definition.specs.Stem.{stem}
use Rattle.definition.specs.Floating.{unmarked, without_marks}
use Rattle.arabic.specs.Kinds.{flags}
use Rattle.stemmer.specs.Entries.{bytes_of, checked, answer, part_after, kind_answer, stem_bytes, stem_answer, stem_entry}
use Rattle.stemmer.specs.Blocks.{out_of}
use Rattle.stemmer.specs.Depends.{SameStem}

-- the bytes of the word without its floating marks
abbrev pub unmarked_bytes : List ℕ → List ℕ
unmarked_bytes = bytes_of unmarked

-- they are a word, for which the stem entries, kind and normalise answer the same and leave the same output, whatever output is lent
pub record SameUnmarked (word : List ℕ) : Type 0 where
  pub accepted : checked (unmarked_bytes word) ≡ Ok tt
  pub stems : SameStem (unmarked_bytes word) word
  pub kinds : kind_answer (unmarked_bytes word) ≡ kind_answer word
  pub answers : (room : ℕ) → answer (without_marks normalise) (unmarked_bytes word) room ≡ answer (without_marks normalise) word room
  pub outputs : (old : List ℕ) → out_of (without_marks normalise) (unmarked_bytes word) old ≡ out_of (without_marks normalise) word old

-- the stem, the part and the normalised form are empty and no ending is cut, with code 0 whatever output is lent, which stays as it was; the word is open
pub record NothingLeft (word : List ℕ) : Type 0 where
  pub stems : (room : ℕ) → stem_entry word room ≡ Ok (record { count = 0; endings = 0 })
  pub stem_outputs : (old : List ℕ) → out_of (without_marks stem) word old ≡ old
  pub parts : (old : List ℕ) → part_after (stem_answer word (length old)) (stem_bytes word) ≡ []
  pub answers : (room : ℕ) → answer (without_marks normalise) word room ≡ Ok 0
  pub outputs : (old : List ℕ) → out_of (without_marks normalise) word old ≡ old
  pub kinds : kind_answer word ≡ Ok (flags OPEN)

-- n times FE7F, which has 3 bytes
abbrev pub marks : ℕ → List ℕ
marks n = encode (replicate n 0xFE7F)
