-- What the entry with places answers for a word, an output of so many bytes and a buffer of so many numbers, and what the buffer holds afterwards (request A7).
use Rattle.std.specs.Prelude.{ℕ, ◌≡◌, List, ◌++◌, ltb, length, take, drop, Result, Ok, Err}
use Rattle.std.proofs.Math.Option.{some}
use Rattle.utf8.specs.Utf8.{decode}
use Rattle.definition.specs.Words.{Word, pick}
use Rattle.definition.specs.Stem.{stem, chain}
use Rattle.definition.specs.Floating.{without_marks}
use Rattle.places.specs.Laws.{Placed}
use Rattle.stemmer.specs.declared.outcome.StemPlaces.{StemPlaces}
use Rattle.stemmer.specs.declared.outcome.Refusal.{Refusal}
use Rattle.stemmer.specs.declared.outcome.Refusal.TheVariants.{NoRoom}
use Rattle.stemmer.specs.Entries.{Answer, letters, checked, after_checks, fitting, stem_bytes}

-- the stem's letters
abbrev pub stem_letters : List ℕ → Word
stem_letters word = without_marks stem (letters word)

-- n bytes for an output of room bytes, and m letters for a buffer of so many numbers
unfoldable pub fitting_both : (n room m numbers : ℕ) → Answer
fitting_both n room m numbers = pick (ltb numbers m) (Err NoRoom) (fitting n room)

-- document 01's table, where code 3 says that the output or the buffer of numbers is too short
unfoldable pub places_answer : List ℕ → ℕ → ℕ → Answer
places_answer word room numbers = after_checks (checked word) (fitting_both (length (stem_bytes word)) room (length (stem_letters word)) numbers)

-- with the number of endings that were cut, and of the stem's letters
abbrev pub with_letters : Answer → ℕ → ℕ → Result StemPlaces Refusal
with_letters (Ok n) m k = Ok (record { count = n; endings = m; letters = k })
with_letters (Err e) m k = Err e

abbrev pub places_entry : List ℕ → ℕ → ℕ → Result StemPlaces Refusal
places_entry word room numbers = with_letters (places_answer word room numbers) (length (without_marks chain (letters word))) (length (stem_letters word))

-- the number of endings that were cut: none on refusal
abbrev pub endings_in : Result StemPlaces Refusal → ℕ
endings_in (Ok s) = s.endings
endings_in (Err e) = 0

-- every number of the buffer after an answer: the places in front and the old numbers behind, or the old numbers alone
unfoldable pub numbers_after : Answer → List ℕ → List ℕ → List ℕ
numbers_after (Ok n) ps old = ps ++ drop (length ps) old
numbers_after (Err e) ps old = old

-- what is owed of the numbers in front of the buffer after an answer with code 0, as many as the stem has letters
abbrev pub PlacedAfter : List ℕ → ℕ → List ℕ → Type 0
PlacedAfter word code new =
    (w : Word) → decode word ≡ some w → code ≡ 0 → Placed w (without_marks stem w) (take (length (without_marks stem w)) new)
