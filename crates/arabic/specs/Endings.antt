-- The environments of item 3: the cursor stands at the end of the text, and a search backward may go all the way. The letters that are left keep
-- their places: those of item 3's first letters.
use Rattle.std.specs.Prelude.{ℕ, ◌+◌, ◌-◌, ◌*◌, ◌≤◌, ◌≡◌, List, length, take, Option as Maybe, Some, None, Result}
use Rattle.std.proofs.Math.Option.{Option, none, some}
use Rattle.definition.specs.Words.{Word, ends_with}
use Rattle.definition.specs.Tables.{A_21}
use Rattle.definition.specs.Search.{row_at, taken}
use Rattle.definition.specs.Tries.{Try, done, failed, after}
use Rattle.definition.specs.Endings.{SuffixStep, suffix, Cutting}
use Rattle.definition.specs.StepRow.{of_ending, alef_maqsura, step_row}
use Rattle.utf8.specs.Places.{size}
use Rattle.snowball.specs.declared.env.Env.{Env}
use Rattle.snowball.specs.Chars.{Chars, started}
use Rattle.snowball.specs.Stands.{work_size, Stands}
use Rattle.arabic.specs.declared.tried.Counted.{Counted}
use Rattle.arabic.specs.declared.tried.Searched.{Searched}
use Rattle.arabic.specs.Tried.{Answers}
use Rattle.arabic.specs.Changes.{cut_numbers, Noted}

-- the text w, for which item 3 began with letters at the places ps
abbrev pub at_end : List ℕ → Word → Chars
at_end ps w = record { text = w; places = take (length w) ps; cursor = length w; back = 0 }

-- and with the cursor in front
abbrev pub left_of : List ℕ → Word → Chars
left_of ps w = started w (take (length w) ps)

-- the environment has the letters that are left and the endings cut, each of which took two bytes at least
pub record Ends (ps : List ℕ) (e : Env) (v : Cutting) : Type 0 where
  pub stands : Stands e (at_end ps v.text)
  pub noted : Noted e (cut_numbers v.cuts)
  pub room : e.limit + 2 * e.made ≤ work_size

abbrev pub Ready : Env → Type 0
Ready e = (v : Cutting) × ((ps : List ℕ) × Ends ps e v)

abbrev pub Gives : List ℕ → Result Env Env → Try Cutting → Type 0
Gives ps r y = Answers (Ends ps) (Ends ps) r y

-- where the ending that a step takes begins, in a text of so many bytes; none where the step takes none
abbrev pub place_by : SuffixStep → ℕ → Option ℕ → Maybe ℕ
place_by s limit none = None
place_by s limit (some r) = Some (limit - size (row_at (suffix s).table r).letters)

unfoldable pub ending_at : SuffixStep → Word → ℕ → Maybe ℕ
ending_at s w limit = place_by s limit (taken (ends_with w) (suffix s) (length w))

-- f has the row of the step s in the text w of so many bytes, and where the ending begins that s takes
pub record TakesEnding (s : SuffixStep) (w : Word) (limit : ℕ) (f : Searched (Maybe ℕ)) : Type 0 where
  pub row : f.row ≡ step_row (of_ending s) w
  pub place : f.outcome ≡ ending_at s w limit

-- ---- item 3 whole, where y is what verb and noun leave: a last 0649 is changed where they fail
-- the row of its search; where it is not searched, the number of rows
unfoldable pub maqsura_row : Try Cutting → ℕ
maqsura_row (done v) = length A_21
maqsura_row (failed v) = step_row alef_maqsura v.text

-- the searched row, and the endings that were cut, as the environment notes them, with their number
pub record EndingsCut (y : Try Cutting) (r : Searched Counted) : Type 0 where
  pub row : r.row ≡ maqsura_row y
  pub noted : Noted r.outcome.env (cut_numbers (after y).cuts)
  pub number : r.outcome.endings ≡ length (after y).cuts
