-- The machine that takes one byte after the other: its state, and what it writes on the way. answer says what answers a line, and room is the most bytes that
-- an answer may have.
use Rattle.std.specs.Prelude.{◌≡◌, Bool, true, false, List, [], ◌∷◌, ◌++◌, ℕ, suc, ◌-◌, ◌≤◌, eqb, leb, length, take, drop}
use Rattle.definition.specs.Words.{pick, both, same}
use Rattle.lines.specs.Line.{put_behind}
use Rattle.lines.specs.Plain.{line_feed, mark}

-- how many bytes of a line are kept: one more than the longest word has, so that an overlong line stays too long
abbrev pub kept_bytes : ℕ
kept_bytes = 256

-- what is owed of the answers: the bytes that are kept of a line have the line's
abbrev pub ByKept : (List ℕ → List ℕ) → Type 0
ByKept answer = (line : List ℕ) → answer (take kept_bytes line) ≡ answer line

-- whether the opening mark may still come, and the bytes kept of the line that is being read
abbrev pub Reading : Type 0
Reading = Bool × List ℕ

abbrev pub start : Reading
start = (true, [])

-- the third byte of the input decides whether it opens with the mark
unfoldable pub opened : Bool → List ℕ → Reading
opened opening l = pick (both opening (eqb (length l) 3)) (false, pick (same l mark) [] l) (opening, l)

-- the state after a byte, and what the byte makes the machine write
unfoldable pub step : Reading → ℕ → Reading
step s b = pick (eqb b line_feed) (false, []) (opened s.0 (put_behind kept_bytes s.1 b))

unfoldable pub said : (List ℕ → List ℕ) → Reading → ℕ → List ℕ
said answer s b = pick (eqb b line_feed) (answer s.1) []

-- the same for a run of bytes
unfoldable pub after : Reading → List ℕ → Reading
after s [] = s
after s (b ∷ bs) = after (step s b) bs

unfoldable pub written : (List ℕ → List ℕ) → Reading → List ℕ → List ℕ
written answer s [] = []
written answer s (b ∷ bs) = said answer s b ++ written answer (step s b) bs

-- what the end of the input makes the machine write: a last line with no LF counts if it has a byte
unfoldable pub last_line : (List ℕ → List ℕ) → Reading → List ℕ
last_line answer s = pick (eqb (length s.1) 0) [] (answer s.1)

-- how many bytes of an input are taken into an output that has so much left: one more each time there is room for any answer
unfoldable pub taken : (List ℕ → List ℕ) → ℕ → ℕ → Reading → List ℕ → ℕ
taken answer room left s [] = 0
taken answer room left s (b ∷ bs) = pick (leb room left) (suc (taken answer room (left - length (said answer s b)) (step s b) bs)) 0

-- what a byte leaves: s and s' are the states, o and o' the output, before and after
pub record Turns (answer : List ℕ → List ℕ) (s s' : Reading) (b : ℕ) (o o' : List ℕ) (count : ℕ) : Type 0 where
  pub state : s' ≡ step s b
  pub counts : count ≡ length (said answer s b)
  pub out : o' ≡ said answer s b ++ drop count o

-- what a piece i of the input leaves, of which used bytes were taken: what they make the machine write stands in front of the output,
-- and the rest of the output is unchanged. The last two fields follow from the others, and callers need them
pub record Feeds (answer : List ℕ → List ℕ) (room : ℕ) (i : List ℕ) (s s' : Reading) (o o' : List ℕ) (used count : ℕ) : Type 0 where
  pub takes : used ≡ taken answer room (length o) s i
  pub state : s' ≡ after s (take used i)
  pub counts : count ≡ length (written answer s (take used i))
  pub out : o' ≡ written answer s (take used i) ++ drop count o
  pub within : used ≤ length i
  pub fits : count ≤ length o'

-- what the end of the input leaves: the last line, if there is one, stands in front of the output, and the rest of the output is unchanged
pub record Ends (answer : List ℕ → List ℕ) (s : Reading) (o o' : List ℕ) (count : ℕ) : Type 0 where
  pub counts : count ≡ length (last_line answer s)
  pub out : o' ≡ last_line answer s ++ drop count o
