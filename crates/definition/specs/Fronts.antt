-- Item 4 of document 01: the fronts.
use Rattle.std.specs.Prelude.{ℕ, ◌-◌, Bool, true, false, List, [], ◌∷◌, ◌++◌, length, take, drop, get_or}
use Rattle.std.proofs.Math.Option.{Option, none, some}
use Rattle.definition.specs.Letters.{alef_madda, alef_hamza_above, alef_hamza_below, alef, beh, teh, seen, feh, kaf, noon, waw, yeh}
use Rattle.definition.specs.Words.{Word, pick, begins_with}
use Rattle.definition.specs.Tables.{A_4, A_5, A_6, A_7, A_8, A_9}
use Rattle.definition.specs.Search.{Rule, rule, row_at, taken}
use Rattle.definition.specs.Tries.{Step, Try, done, failed, after, in_turn, first_of, attempt}
use Rattle.definition.specs.Kind.{Kind, if_open}

-- r_Prefix_Step1 to r_Prefix_Step4_Verb
pub data PrefixStep : Type 0 where
  prefix_step1 prefix_step2 prefix_step3a_noun prefix_step3b_noun prefix_step3_verb prefix_step4_verb : PrefixStep

-- each step's table, and its guards by class
unfoldable pub prefix : PrefixStep → Rule
prefix prefix_step1 = rule A_4 (4 ∷ 4 ∷ 4 ∷ 4 ∷ 4 ∷ [])
prefix prefix_step2 = rule A_5 (4 ∷ 4 ∷ [])
prefix prefix_step3a_noun = rule A_6 (6 ∷ 5 ∷ [])
prefix prefix_step3b_noun = rule A_7 (4 ∷ 4 ∷ 4 ∷ [])
prefix prefix_step3_verb = rule A_8 (5 ∷ 5 ∷ 5 ∷ 5 ∷ [])
prefix prefix_step4_verb = rule A_9 (5 ∷ [])

-- what stands for the row, by class; no letter where the row is deleted
unfoldable pub replacements : PrefixStep → List Word
replacements prefix_step1 = (alef_hamza_above ∷ []) ∷ (alef_madda ∷ []) ∷ (alef_hamza_above ∷ []) ∷ (alef ∷ []) ∷ (alef_hamza_below ∷ []) ∷ []
replacements prefix_step2 = [] ∷ [] ∷ []
replacements prefix_step3a_noun = [] ∷ [] ∷ []
replacements prefix_step3b_noun = [] ∷ (beh ∷ []) ∷ (kaf ∷ []) ∷ []
replacements prefix_step3_verb = (yeh ∷ []) ∷ (teh ∷ []) ∷ (noon ∷ []) ∷ (alef_hamza_above ∷ []) ∷ []
replacements prefix_step4_verb = (alef ∷ seen ∷ teh ∷ []) ∷ []

-- the texts at which a step fails before it searches
unfoldable pub not_at : PrefixStep → List Word
not_at prefix_step1 = []
not_at prefix_step2 = (feh ∷ alef ∷ []) ∷ (waw ∷ alef ∷ []) ∷ []
not_at prefix_step3a_noun = []
not_at prefix_step3b_noun = (beh ∷ alef ∷ []) ∷ []
not_at prefix_step3_verb = []
not_at prefix_step4_verb = []

-- a step that has changed the front, and the number of its row
pub record Applied : Type 0 where
  pub step : PrefixStep
  pub row : ℕ

abbrev pub at : PrefixStep → ℕ → Applied
at s r = record { step = s; row = r }

unfoldable pub front_row : Applied → Word
front_row m = (row_at (prefix m.step).table m.row).letters

unfoldable pub replacement : Applied → Word
replacement m = get_or (replacements m.step) ((row_at (prefix m.step).table m.row).class - 1) []

-- the row but for as many last letters as its replacement has
abbrev pub unreplaced : Applied → Word
unreplaced m = take (length (front_row m) - length (replacement m)) (front_row m)

-- The text is head, passed and rest, and the cursor stands before rest.
-- front: the letters taken, and the head letter. applied: the steps, the last one foremost.
pub record Fronting : Type 0 where
  pub front : Word
  pub head_letter : Word
  pub passed : Word
  pub rest : Word
  pub applied : List Applied

abbrev pub text : Fronting → Word
text f = f.head_letter ++ (f.passed ++ f.rest)

-- Step1 keeps one of its two letters as the head and takes the other.
abbrev pub headed : Fronting → Applied → Fronting
headed f m = record {
  front = f.front ++ front_row m;
  head_letter = replacement m;
  passed = f.passed;
  rest = drop (length (front_row m)) f.rest;
  applied = m ∷ f.applied;
}

-- Any other step takes its row, but for as many last letters as its replacement has; the cursor then stands behind the replacement.
abbrev pub passing : Fronting → Applied → Fronting
passing f m = record {
  front = f.front ++ unreplaced m;
  head_letter = f.head_letter;
  passed = f.passed ++ replacement m;
  rest = drop (length (front_row m)) f.rest;
  applied = m ∷ f.applied;
}

unfoldable pub change : PrefixStep → Fronting → Applied → Fronting
change prefix_step1 f m = headed f m
change prefix_step2 f m = passing f m
change prefix_step3a_noun f m = passing f m
change prefix_step3b_noun f m = passing f m
change prefix_step3_verb f m = passing f m
change prefix_step4_verb f m = passing f m

abbrev pub begins_with_any : Word → List Word → Bool
begins_with_any w [] = false
begins_with_any w (k ∷ ks) = pick (begins_with w k) true (begins_with_any w ks)

abbrev pub apply_by : PrefixStep → Fronting → Option ℕ → Try Fronting
apply_by s f none = failed f
apply_by s f (some r) = done (change s f (at s r))

abbrev pub apply_unless : Bool → PrefixStep → Fronting → Try Fronting
apply_unless true s f = failed f
apply_unless false s f = apply_by s f (taken (begins_with f.rest) (prefix s) (length (text f)))

-- one step: its longest row at the cursor is changed if the guard is met, and else the step fails
unfoldable pub apply : PrefixStep → Step Fronting
apply s f = apply_unless (begins_with_any f.rest (not_at s)) s f

-- ---- the steps in their order, as lists: of `..Choices` the first that succeeds is taken, those of `..InTurn` follow each other

-- Step3_Verb followed by Step4_Verb
abbrev pub prefix_step3_verb_in_turn : List (Step Fronting)
prefix_step3_verb_in_turn = attempt (apply prefix_step3_verb) ∷ apply prefix_step4_verb ∷ []

-- the first of Step3a_Noun, Step3b_Noun, and, for open words, the verb's steps
abbrev pub prefix_step3_choices : Kind → Step Fronting → List (Step Fronting)
prefix_step3_choices k verb_steps = apply prefix_step3a_noun ∷ apply prefix_step3b_noun ∷ if_open k verb_steps ∷ []

-- Step1, Step2, then Step3
abbrev pub prefixes_in_turn : Step Fronting → List (Step Fronting)
prefixes_in_turn step3 = attempt (apply prefix_step1) ∷ attempt (apply prefix_step2) ∷ step3 ∷ []

unfoldable pub prefix_steps : Kind → Step Fronting
prefix_steps k = in_turn (prefixes_in_turn (first_of (prefix_step3_choices k (in_turn prefix_step3_verb_in_turn))))

unfoldable pub started : Word → Fronting
started w = record { front = []; head_letter = []; passed = []; rest = w; applied = [] }

unfoldable pub fronts : Kind → Word → Fronting
fronts k w = after (prefix_steps k (started w))
