-- What an index keeps of a word in place of the typed one, and what two words that it cannot tell apart have in common (request A13).
use Rattle.std.specs.Prelude.{ℕ, ◌≤◌, ◌≡◌, List, [], ◌∷◌, length, Ok}
use Rattle.utf8.specs.Utf8.{encode}
use Rattle.definition.specs.Letters.{alef, jeem, lam, heh, waw}
use Rattle.definition.specs.Kind.{OPEN, DEFINED}
use Rattle.definition.specs.Normal.{normalise}
use Rattle.definition.specs.Stem.{stem}
use Rattle.definition.specs.Floating.{without_marks}
use Rattle.definition.specs.Depends.{in_letters, in_forms, with_mark}
use Rattle.arabic.specs.Kinds.{flags}
use Rattle.stemmer.specs.Entries.{enough_room, kind_code, kind_or_open, part_after, kind_answer, stem_bytes, stem_answer, stem_entry}
use Rattle.stemmer.specs.Blocks.{out_of, written}

-- normalise writes the same bytes for both, into outputs of 340 bytes or more, and kind answers the same code and says the same of both: defined or not
pub record SameKept (u v old old' : List ℕ) : Type 0 where
  pub room : enough_room ≤ length old
  pub room' : enough_room ≤ length old'
  pub bytes : written (without_marks normalise) u old ≡ written (without_marks normalise) v old'
  pub codes : kind_code (kind_answer u) ≡ kind_code (kind_answer v)
  pub kinds : (kind_or_open (kind_answer u)).defined ≡ (kind_or_open (kind_answer v)).defined

-- the stem entries answer the same for both, the number of endings too, leave the same output, and hand back the same part, whatever output is lent
pub record SameStem (u v : List ℕ) : Type 0 where
  pub answers : (room : ℕ) → stem_entry u room ≡ stem_entry v room
  pub outputs : (old : List ℕ) → out_of (without_marks stem) u old ≡ out_of (without_marks stem) v old
  pub parts : (old : List ℕ) → part_after (stem_answer u (length old)) (stem_bytes u) ≡ part_after (stem_answer v (length old)) (stem_bytes v)

-- document 01's fifth word, its sixth, and the fifth with a vowel mark, in bytes
abbrev pub fifth : List ℕ
fifth = encode in_letters

abbrev pub sixth : List ℕ
sixth = encode in_forms

abbrev pub marked : List ℕ
marked = encode with_mark

-- normalise writes the fifth word for the fifth and the sixth, and their kinds and their stems differ
pub record OneWordTwoKinds (old : List ℕ) : Type 0 where
  pub fifth_bytes : written (without_marks normalise) fifth old ≡ fifth
  pub sixth_bytes : written (without_marks normalise) sixth old ≡ fifth
  pub fifth_kind : kind_answer fifth ≡ Ok (flags DEFINED)
  pub sixth_kind : kind_answer sixth ≡ Ok (flags OPEN)
  pub fifth_answer : stem_answer fifth (length old) ≡ Ok 6
  pub sixth_answer : stem_answer sixth (length old) ≡ Ok 8
  pub fifth_stem : written (without_marks stem) fifth old ≡ encode (waw ∷ jeem ∷ heh ∷ [])
  pub sixth_stem : written (without_marks stem) sixth old ≡ encode (alef ∷ lam ∷ waw ∷ jeem ∷ [])
