-- The environments of item 4: the cursor stands in front of the letters that are not yet passed. The head letter keeps the place of the letter of the
-- front that it is, and the letters behind the front keep theirs.
use Rattle.std.specs.Prelude.{ℕ, ◌+◌, ◌-◌, ◌*◌, ◌≤◌, ◌≡◌, Bool, false, eqb, MatchOption, List, [], ◌∷◌, ◌++◌, map, length, take, drop, Option as Maybe, Some, None, Result}
use Rattle.std.specs.Borrow.{Bor}
use Rattle.std.proofs.Math.Option.{Option, none, some}
use Rattle.definition.specs.Words.{Word, begins_with}
use Rattle.definition.specs.Search.{row_at, longest, taken}
use Rattle.definition.specs.Tries.{Try}
use Rattle.definition.specs.Fronts.{PrefixStep, prefix, replacements, Applied, at, front_row, replacement, Fronting, text, change, started}
use Rattle.places.specs.Places.{head_from}
use Rattle.utf8.specs.Utf8.{encode}
use Rattle.utf8.specs.Places.{size}
use Rattle.snowball.specs.declared.env.Env.{Env}
use Rattle.snowball.specs.Cut.{replaced}
use Rattle.snowball.specs.Chars.{Chars}
use Rattle.snowball.specs.Stands.{work_size, Stands}
use Rattle.arabic.specs.declared.tried.Searched.{Searched}
use Rattle.arabic.specs.declared.prefix_halves.TakenRow.{TakenRow}
use Rattle.arabic.specs.Tried.{Answers}
use Rattle.arabic.specs.Changes.{front_numbers, Noted}

-- how many letters are in front of the cursor
abbrev pub cursor_of : Fronting → ℕ
cursor_of f = length (f.head_letter ++ f.passed)

-- of the places ps of the letters with which item 4 began, that of the head letter, and those of all behind the front
abbrev pub head_places : List ℕ → Fronting → List ℕ
head_places ps f = take (length f.head_letter) (drop (head_from f.front) ps)

abbrev pub front_places : List ℕ → Fronting → List ℕ
front_places ps f = head_places ps f ++ drop (length f.front) ps

abbrev pub at_front : List ℕ → Fronting → Chars
at_front ps f = record { text = text f; places = front_places ps f; cursor = cursor_of f; back = 0 }

-- a head letter has a place, and two letters of the front
pub record HeadPlaced (ps : List ℕ) (f : Fronting) : Type 0 where
  pub head : length (head_places ps f) ≡ length f.head_letter
  pub two : 2 * length f.head_letter ≤ length f.front

-- e stands for the state f of item 4, and has the changes of the front, each of which took two bytes at least
pub record AtFront (ps : List ℕ) (e : Env) (f : Fronting) : Type 0 where
  pub stands : Stands e (at_front ps f)
  pub noted : Noted e (front_numbers f.applied)
  pub room : 2 * length f.applied + size f.rest ≤ work_size

-- and the head letter has its place
pub record Passed (ps : List ℕ) (e : Env) (f : Fronting) : Type 0 where
  pub state : AtFront ps e f
  pub placed : HeadPlaced ps f

-- and nothing is passed yet
pub record Fronts (ps : List ℕ) (e : Env) (f : Fronting) : Type 0 where
  pub state : AtFront ps e f
  pub placed : HeadPlaced ps f
  pub unpassed : f.passed ≡ []

abbrev pub ReadyFront : Env → Type 0
ReadyFront e = (f : Fronting) × ((ps : List ℕ) × Fronts ps e f)

abbrev pub ReadyPassed : Env → Type 0
ReadyPassed e = (f : Fronting) × ((ps : List ℕ) × Passed ps e f)

-- at the start nothing is changed
abbrev pub ReadyStart : Env → Type 0
ReadyStart e = (w : Word) × ((ps : List ℕ) × AtFront ps e (started w))

-- Step1 and Step2 pass nothing; a step of Step3 that succeeds passes what it puts; and so does Step4_Verb
abbrev pub GivesFront : List ℕ → Result Env Env → Try Fronting → Type 0
GivesFront ps r y = Answers (Fronts ps) (Fronts ps) r y

abbrev pub GivesThird : List ℕ → Result Env Env → Try Fronting → Type 0
GivesThird ps r y = Answers (Passed ps) (Fronts ps) r y

abbrev pub GivesPassed : List ℕ → Result Env Env → Try Fronting → Type 0
GivesPassed ps r y = Answers (Passed ps) (Passed ps) r y

-- what any step gives: the text, the places and the changes
abbrev pub GivesText : List ℕ → Result Env Env → Try Fronting → Type 0
GivesText ps r y = Answers (AtFront ps) (AtFront ps) r y

-- ---- the row that a step takes
-- its class, and the place behind it; none where the step takes none
abbrev pub taken_by : PrefixStep → ℕ → Option ℕ → Maybe TakenRow
taken_by s at none = None
taken_by s at (some r) = Some (record { class = (row_at (prefix s).table r).class; cursor = at + size (row_at (prefix s).table r).letters })

-- f has the longest row of s where rest follows the cursor at in the text t, and the row that s takes
pub record Takes (s : PrefixStep) (t rest : Word) (at : ℕ) (f : Searched (Maybe TakenRow)) : Type 0 where
  pub row : f.row ≡ longest (begins_with rest) (prefix s).table
  pub taken : f.outcome ≡ taken_by s at (taken (begins_with rest) (prefix s) (length t))

-- b says whether the row that is taken has class 3
abbrev pub FirstKept : Maybe TakenRow → Bool → Type 0
FirstKept o b = MatchOption o (b ≡ false) (λ t. b ≡ eqb t.class 3)

-- ---- what a step puts in its place
abbrev pub encoded : List Word → List (List ℕ)
encoded [] = []
encoded (w ∷ ws) = encode w ∷ encoded ws

-- the bytes puts are what s puts for each class
abbrev pub Puts : PrefixStep → List (Bor (List ℕ)) → Type 0
Puts s puts = map (λ (b : Bor (List ℕ)). b.now) puts ≡ encoded (replacements s)

-- g is f with the row of m at the cursor replaced, as many places as letters go taken out there, and the cursor behind what replaces the row
pub record InPlace (ps : List ℕ) (f : Fronting) (m : Applied) (g : Fronting) : Type 0 where
  pub text : replaced (text f) (cursor_of f) (cursor_of f + length (front_row m)) (replacement m) ≡ text g
  pub places : replaced (front_places ps f) (cursor_of f) (cursor_of f + length (front_row m) - length (replacement m)) [] ≡ front_places ps g
  pub cursor : cursor_of f + length (replacement m) ≡ cursor_of g

-- what s makes of f by the row that it takes
abbrev pub ChangesInPlace : List ℕ → PrefixStep → Fronting → Type 0
ChangesInPlace ps s f = (r : ℕ) → taken (begins_with f.rest) (prefix s) (length (text f)) ≡ some r → InPlace ps f (at s r) (change s f (at s r))
