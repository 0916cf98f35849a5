-- What the story entry answers for the bytes of a word and an output of so many bytes, and what the output holds afterwards (request A3).
use Rattle.std.specs.Prelude.{ℕ, ◌≡◌, List, length, take}
use Rattle.std.proofs.Math.Option.{some}
use Rattle.utf8.specs.Utf8.{decode}
use Rattle.definition.specs.Words.{Word}
use Rattle.stemmer.specs.Entries.{Answer, code_of, count_of, letters, checked, after_checks, fitting}
use Rattle.history.specs.History.{history}
use Rattle.history.specs.Text.{story}
use Rattle.history.specs.Reader.{read}

-- an output of so many bytes is long enough for every story
abbrev pub story_room : ℕ
story_room = 5937

-- the bytes of the story of a word as it is typed
unfoldable pub story_bytes : List ℕ → List ℕ
story_bytes word = story (letters word)

-- document 01's table, with the story as the result
unfoldable pub story_answer : List ℕ → ℕ → Answer
story_answer word room = after_checks (checked word) (fitting (length (story_bytes word)) room)

-- what stands in front of the output after an answer with code 0 is read back as the history of the word
abbrev pub ReadBack : List ℕ → Answer → List ℕ → Type 0
ReadBack word a new = (w : Word) → decode word ≡ some w → code_of a ≡ 0 → read (take (count_of a) new) ≡ some (history w)
