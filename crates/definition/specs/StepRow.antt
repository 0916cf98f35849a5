-- The row behind a step (document 02, A2): which row, from 0, the one search of a step answers, and small texts that show it.
use Rattle.std.specs.Prelude.{ℕ, Bool, false, List, [], ◌∷◌, length}
use Rattle.definition.specs.Letters.{alef_hamza_above, alef, beh, teh_marbuta, teh, seen, ain, feh, kaf, lam, meem, noon, heh, waw, alef_maksura, yeh}
use Rattle.definition.specs.Words.{Word, pick, begins_with, ends_with}
use Rattle.definition.specs.Tables.{Table, A_3, A_21}
use Rattle.definition.specs.Search.{longest}
use Rattle.definition.specs.Endings.{SuffixStep, verb_step1, verb_step2a, verb_step2b, verb_step2c, noun_step1b, noun_step2a, noun_step2b, noun_step2c1, noun_step2c2, noun_step3, suffix}
use Rattle.definition.specs.Fronts.{PrefixStep, prefix_step1, prefix_step2, prefix_step3a_noun, prefix_step3b_noun, prefix_step3_verb, prefix_step4_verb, prefix, not_at, begins_with_any}

-- the steps that make one search: r_Checks1, those that cut an ending, r_Suffix_All_alef_maqsura, and those that change the front
pub data OneSearch : Type 0 where
  kind_check : OneSearch
  of_ending : SuffixStep → OneSearch
  alef_maqsura : OneSearch
  of_front : PrefixStep → OneSearch

-- the table that is searched
abbrev pub table_of : OneSearch → Table
table_of kind_check = A_3
table_of (of_ending s) = (suffix s).table
table_of alef_maqsura = A_21
table_of (of_front s) = (prefix s).table

-- which rows match in the text w: those in front of it, or those at its end
abbrev pub match_in : OneSearch → Word → Word → Bool
match_in kind_check w = begins_with w
match_in (of_ending s) w = ends_with w
match_in alef_maqsura w = ends_with w
match_in (of_front s) w = begins_with w

-- whether the step ends before it searches
abbrev pub ends_early : OneSearch → Word → Bool
ends_early kind_check w = false
ends_early (of_ending s) w = false
ends_early alef_maqsura w = false
ends_early (of_front s) w = begins_with_any w (not_at s)

-- The step's row in the text w, which for a front is what stands behind the cursor: the longest match, whether its guard is met or not.
-- With no match, and where the step ends before it searches, it is the table's number of rows.
abbrev pub step_row : OneSearch → Word → ℕ
step_row s w = pick (ends_early s w) (length (table_of s)) (longest (match_in s w) (table_of s))

-- ---- small texts

pub record RowSample : Type 0 where
  pub step : OneSearch
  pub text : Word
  pub row : ℕ

abbrev pub row_in : OneSearch → Word → ℕ → RowSample
row_in s w r = record { step = s; text = w; row = r }

-- a sample's step and text with the row that the definition gives
unfoldable pub row_computed : RowSample → RowSample
row_computed s = row_in s.step s.text (step_row s.step s.text)

-- Of each step a row and a text with none; of some a row whose guard is met and one whose guard is not; rows that a shorter one matches with; and each end before a search.
unfoldable pub row_samples : List RowSample
row_samples =
    row_in kind_check (alef ∷ lam ∷ kaf ∷ teh ∷ []) 0
    ∷ row_in kind_check (beh ∷ alef ∷ lam ∷ []) 1
    ∷ row_in kind_check (lam ∷ lam ∷ []) 3
    ∷ row_in kind_check (kaf ∷ teh ∷ beh ∷ []) 4
    ∷ row_in (of_ending verb_step1) (kaf ∷ teh ∷ beh ∷ heh ∷ []) 5
    ∷ row_in (of_ending verb_step1) (kaf ∷ teh ∷ heh ∷ alef ∷ []) 11
    ∷ row_in (of_ending verb_step1) (heh ∷ meem ∷ alef ∷ []) 9
    ∷ row_in (of_ending verb_step1) (kaf ∷ []) 0
    ∷ row_in (of_ending verb_step1) (kaf ∷ teh ∷ beh ∷ []) 12
    ∷ row_in (of_ending verb_step2a) (kaf ∷ teh ∷ beh ∷ alef ∷ []) 6
    ∷ row_in (of_ending verb_step2a) (kaf ∷ teh ∷ noon ∷ alef ∷ []) 8
    ∷ row_in (of_ending verb_step2a) (teh ∷ meem ∷ alef ∷ []) 7
    ∷ row_in (of_ending verb_step2a) [] 11
    ∷ row_in (of_ending verb_step2b) (teh ∷ meem ∷ []) 0
    ∷ row_in (of_ending verb_step2b) [] 2
    ∷ row_in (of_ending verb_step2c) (teh ∷ meem ∷ waw ∷ []) 1
    ∷ row_in (of_ending verb_step2c) [] 2
    ∷ row_in (of_ending noun_step1b) (noon ∷ []) 0
    ∷ row_in (of_ending noun_step1b) [] 1
    ∷ row_in (of_ending noun_step2a) (kaf ∷ waw ∷ []) 0
    ∷ row_in (of_ending noun_step2a) (kaf ∷ noon ∷ []) 3
    ∷ row_in (of_ending noun_step2b) (alef ∷ teh ∷ []) 0
    ∷ row_in (of_ending noun_step2b) [] 1
    ∷ row_in (of_ending noun_step2c1) (teh ∷ []) 0
    ∷ row_in (of_ending noun_step2c1) [] 1
    ∷ row_in (of_ending noun_step2c2) (teh_marbuta ∷ []) 0
    ∷ row_in (of_ending noun_step2c2) [] 1
    ∷ row_in (of_ending noun_step3) (ain ∷ lam ∷ yeh ∷ []) 0
    ∷ row_in (of_ending noun_step3) (yeh ∷ []) 0
    ∷ row_in (of_ending noun_step3) (ain ∷ lam ∷ []) 1
    ∷ row_in alef_maqsura (alef_maksura ∷ []) 0
    ∷ row_in alef_maqsura (alef_maksura ∷ yeh ∷ []) 1
    ∷ row_in (of_front prefix_step1) (alef_hamza_above ∷ alef_hamza_above ∷ []) 1
    ∷ row_in (of_front prefix_step1) (alef_hamza_above ∷ []) 5
    ∷ row_in (of_front prefix_step2) (feh ∷ kaf ∷ teh ∷ beh ∷ []) 0
    ∷ row_in (of_front prefix_step2) (waw ∷ []) 1
    ∷ row_in (of_front prefix_step2) (kaf ∷ []) 2
    ∷ row_in (of_front prefix_step2) (feh ∷ alef ∷ kaf ∷ teh ∷ beh ∷ []) 2
    ∷ row_in (of_front prefix_step2) (waw ∷ alef ∷ kaf ∷ teh ∷ beh ∷ []) 2
    ∷ row_in (of_front prefix_step3a_noun) (alef ∷ lam ∷ []) 0
    ∷ row_in (of_front prefix_step3a_noun) [] 4
    ∷ row_in (of_front prefix_step3b_noun) (beh ∷ kaf ∷ teh ∷ []) 0
    ∷ row_in (of_front prefix_step3b_noun) (beh ∷ beh ∷ []) 1
    ∷ row_in (of_front prefix_step3b_noun) (kaf ∷ []) 3
    ∷ row_in (of_front prefix_step3b_noun) (beh ∷ alef ∷ kaf ∷ teh ∷ []) 3
    ∷ row_in (of_front prefix_step3_verb) (seen ∷ yeh ∷ []) 3
    ∷ row_in (of_front prefix_step3_verb) [] 4
    ∷ row_in (of_front prefix_step4_verb) (noon ∷ seen ∷ teh ∷ []) 1
    ∷ row_in (of_front prefix_step4_verb) (seen ∷ teh ∷ []) 3
    ∷ []
