-- What is shown of the line machine beside the functions' contracts, each closed by the file that proves it: for any answers, and for the line program of stems. Assumes nothing.
use mathlib.Core.Path.{◌≡◌, refl}
use mathlib.Core.Bool.{Bool}
use mathlib.Core.List.{List, [], ◌∷◌, ◌++◌, map, flatten}
use Prim.Native.Nat.{ℕ, ◌≤◌, ◌<◌}
use lib.ListN.{length, take}
use Rattle.lines.specs.Plain.{line_feed, skip_mark, lines_of, output}
use Rattle.lines.specs.Machine.{kept_bytes, ByKept, Reading, start, after, written, last_line, Feeds}
use Rattle.lines.specs.Calls.{Calls}
use Rattle.lines.specs.Refusals.{question_mark, refusal}
use Rattle.lines.specs.Stems.{answer_line, stem_room, line_room}
use Rattle.lines.specs.Facts.{Without, shown}
use Rattle.lines.specs.Examples.{examples}
use Rattle.stemmer.specs.Entries.{most_bytes, code_of, stem_bytes, stem_answer}
use Rattle.lines.proofs.Questions.{no_question}
use Rattle.lines.proofs.Room.{never_three}
use Rattle.lines.proofs.Answering.{line_answer, line_long, line_kept}
use Rattle.lines.proofs.Examples.{examples_right}
use Rattle.lines.proofs.Splitting.{no_lf, line_first, line_last}
use Rattle.lines.proofs.Calling.{calls_output, calls_are, feeds_some}
use Rattle.lines.proofs.Whole.{whole, last-kept}

module _ {answer : List ℕ → List ℕ} {room : ℕ} where
  -- what calls of `feed` and `finish` write for an input in pieces, whatever the pieces and the outputs that they are lent, is what the plain
  -- definition says of the pieces joined; `Reader::start` gives such a reader
  pub main_calls : ByKept answer → {s : Reading} {pieces : List (List ℕ)} {w : List ℕ} → s ≡ start → Calls answer room s pieces w → w ≡ output answer (flatten pieces)
  main_calls = calls_output answer room

  -- there are such calls for every list of pieces
  pub main_some : (s : Reading) (pieces : List (List ℕ)) → (w : List ℕ) × Calls answer room s pieces w
  main_some = calls_are answer room

  -- and a call with room for any answer takes at least a byte, so that each piece is taken whole by as many calls
  pub main_taken : {i : List ℕ} {s s' : Reading} {o o' : List ℕ} {used count : ℕ} → Feeds answer room i s s' o o' used count → room ≤ length o → 1 ≤ length i → 1 ≤ used
  main_taken = feeds_some answer room

-- what the machine writes for an input, its end included, is what the plain definition says
pub main_whole : {answer : List ℕ → List ℕ} → ByKept answer → (i : List ℕ) → written answer start i ++ last_line answer (after start i) ≡ output answer i
main_whole {answer} kept = whole answer kept

-- `Reader::resume` keeps the first bytes of a line: what `finish` then writes is the answer to the whole line
pub main_resumed : {answer : List ℕ → List ℕ} → ByKept answer → (opening : Bool) (w : List ℕ) → last_line answer (opening, take kept_bytes w) ≡ last_line answer (opening, w)
main_resumed {answer} kept = last-kept answer kept

-- so it is with the line program of stems
pub main_stems : {s : Reading} {pieces : List (List ℕ)} {w : List ℕ} → s ≡ start → Calls answer_line line_room s pieces w → w ≡ output answer_line (flatten pieces)
main_stems = main_calls line_kept

pub main_stems_whole : (i : List ℕ) → written answer_line start i ++ last_line answer_line (after start i) ≡ output answer_line i
main_stems_whole = main_whole line_kept

-- no line meets code 3: lent 340 bytes, the stem entry never answers it
pub main_three : (w : List ℕ) → code_of (stem_answer w stem_room) ≡ 3 → ⊥
main_three = never_three

-- and what it answers then, shown in bytes, is the line
pub main_answer : (w : List ℕ) → answer_line w ≡ shown (stem_answer w stem_room) (stem_bytes w) ++ line_feed ∷ []
main_answer = line_answer

-- a line over 255 bytes is answered by `?1`
pub main_overlong : (w : List ℕ) → most_bytes < length w → answer_line w ≡ refusal 1 ++ line_feed ∷ []
main_overlong = line_long

-- no stem holds `?`, so that a line with `?` is a refusal
pub main_question : (w : List ℕ) → Without question_mark (stem_bytes w)
main_question = no_question

-- the lines of an input: what stands before the first LF is one, and what stands behind the last LF is one if it has a byte
pub main_line : (w bs : List ℕ) → Without line_feed w → lines_of (w ++ line_feed ∷ bs) ≡ w ∷ lines_of bs
main_line w bs n = line_first w line_feed bs (no_lf w n) refl

pub main_last_line : (x : ℕ) (xs : List ℕ) → Without line_feed (x ∷ xs) → lines_of (x ∷ xs) ≡ (x ∷ xs) ∷ []
main_last_line x xs n = line_last x xs (no_lf (x ∷ xs) n)

-- the examples have the lines that are listed beside them
pub main_examples : map (λ (e : List ℕ × List (List ℕ)). lines_of (skip_mark e.0)) examples ≡ map (λ (e : List ℕ × List (List ℕ)). e.1) examples
main_examples = examples_right
