-- Item 3 of document 01: the endings, and the chain of the rows that are cut. The noun's Step1a is left out: it cuts in no word (crate old_noun).
use Rattle.std.specs.Prelude.{ℕ, ◌-◌, List, [], ◌∷◌, ◌++◌, eqb, length, take}
use Rattle.std.proofs.Math.Option.{Option, none, some}
use Rattle.definition.specs.Letters.{alef_maksura, yeh}
use Rattle.definition.specs.Words.{Word, pick, ends_with}
use Rattle.definition.specs.Tables.{A_11, A_12, A_13, A_14, A_15, A_16, A_17, A_18, A_19, A_20}
use Rattle.definition.specs.Search.{Rule, rule, row_at, taken}
use Rattle.definition.specs.Tries.{Step, Try, done, failed, after, nothing, ◌then_try◌, in_turn, first_of, again}
use Rattle.definition.specs.Kind.{Kind, if_open}

-- r_Suffix_Verb_Step1 to r_Suffix_Verb_Step2c, r_Suffix_Noun_Step1b to r_Suffix_Noun_Step3
pub data SuffixStep : Type 0 where
  verb_step1 verb_step2a verb_step2b verb_step2c : SuffixStep
  noun_step1b noun_step2a noun_step2b noun_step2c1 noun_step2c2 noun_step3 : SuffixStep

-- each step's table, and its guards by class
unfoldable pub suffix : SuffixStep → Rule
suffix verb_step1 = rule A_17 (4 ∷ 5 ∷ 6 ∷ [])
suffix verb_step2a = rule A_18 (4 ∷ 4 ∷ 5 ∷ 6 ∷ 6 ∷ [])
suffix verb_step2b = rule A_19 (5 ∷ [])
suffix verb_step2c = rule A_20 (4 ∷ 6 ∷ [])
suffix noun_step1b = rule A_11 (6 ∷ [])
suffix noun_step2a = rule A_12 (5 ∷ [])
suffix noun_step2b = rule A_13 (5 ∷ [])
suffix noun_step2c1 = rule A_14 (4 ∷ [])
suffix noun_step2c2 = rule A_15 (4 ∷ [])
suffix noun_step3 = rule A_16 (3 ∷ [])

-- an ending that was cut: its step, and the number of its row
pub record Cut : Type 0 where
  pub step : SuffixStep
  pub row : ℕ

unfoldable pub ending : Cut → Word
ending c = (row_at (suffix c.step).table c.row).letters

-- the endings' letters joined
unfoldable pub joined : List Cut → Word
joined [] = []
joined (c ∷ cs) = ending c ++ joined cs

-- the letters that are left, and the endings cut so far, the last one foremost
pub record Cutting : Type 0 where
  pub text : Word
  pub cuts : List Cut

-- nothing is cut yet
abbrev pub uncut : Word → Cutting
uncut n = record { text = n; cuts = [] }

unfoldable pub cut_off : Cutting → Cut → Cutting
cut_off v c = record { text = take (length v.text - length (ending c)) v.text; cuts = c ∷ v.cuts }

abbrev pub cut_by : SuffixStep → Cutting → Option ℕ → Try Cutting
cut_by s v none = failed v
cut_by s v (some r) = done (cut_off v (record { step = s; row = r }))

-- one step: its longest row at the end is cut if the guard is met, and else the step fails
unfoldable pub cut : SuffixStep → Step Cutting
cut s v = cut_by s v (taken (ends_with v.text) (suffix s) (length v.text))

-- Verb and noun are put together from named lists of steps, each a function of what is nested in it.
-- Of `..Choices` and `after..` the first step that succeeds is taken, and the steps of `..InTurn` follow each other.

-- ---- the verb

-- after at least one cut: Step2a, else Step2c, else nothing, and the verb stands
abbrev pub after_verb_step1 : List (Step Cutting)
after_verb_step1 = cut verb_step2a ∷ cut verb_step2c ∷ nothing ∷ []

-- Step1 as often as it cuts, and its sequel. Each cut takes a letter, so the number n of letters bounds the cuts.
abbrev pub verb_step1_in_turn : ℕ → Step Cutting → List (Step Cutting)
verb_step1_in_turn n sequel = (cut verb_step1 then_try again n (cut verb_step1)) ∷ sequel ∷ []

-- Step1 with its sequel; with no cut: Step2b, else Step2a, else the verb fails
abbrev pub verb_choices : Step Cutting → List (Step Cutting)
verb_choices step1 = step1 ∷ cut verb_step2b ∷ cut verb_step2a ∷ []

unfoldable pub verb : Step Cutting
verb v = first_of (verb_choices (in_turn (verb_step1_in_turn (length v.text) (first_of after_verb_step1)))) v

-- ---- the noun

-- after Step1b: 2a, 2b or 2c1
abbrev pub after_noun_step1b : List (Step Cutting)
after_noun_step1b = cut noun_step2a ∷ cut noun_step2b ∷ cut noun_step2c1 ∷ []

abbrev pub noun_step1b_in_turn : Step Cutting → List (Step Cutting)
noun_step1b_in_turn sequel = cut noun_step1b ∷ sequel ∷ []

abbrev pub noun_by_step1b : Step Cutting
noun_by_step1b = in_turn (noun_step1b_in_turn (first_of after_noun_step1b))

-- first of: Step2c2; Step1b with its sequel; if open, 2a; 2b; none
abbrev pub noun_choices : Kind → Step Cutting → List (Step Cutting)
noun_choices k step1b = cut noun_step2c2 ∷ step1b ∷ if_open k (cut noun_step2a) ∷ cut noun_step2b ∷ nothing ∷ []

-- then Step3
abbrev pub noun_in_turn : Step Cutting → List (Step Cutting)
noun_in_turn choice = choice ∷ cut noun_step3 ∷ []

unfoldable pub noun : Kind → Step Cutting
noun k = in_turn (noun_in_turn (first_of (noun_choices k noun_by_step1b)))

-- ---- verb and noun

-- an open word first tries the verb; the noun follows where the verb was not tried or failed
abbrev pub ending_choices : Kind → Step Cutting → Step Cutting → List (Step Cutting)
ending_choices k by_verb by_noun = if_open k by_verb ∷ by_noun ∷ []

-- it fails where the noun's Step3 fails
unfoldable pub endings : Kind → Word → Try Cutting
endings k n = first_of (ending_choices k verb (noun k)) (uncut n)

-- r_Suffix_All_alef_maqsura: a last 0649 becomes 064A
unfoldable pub suffix_all_alef_maqsura : Word → Word
suffix_all_alef_maqsura [] = []
suffix_all_alef_maqsura (c ∷ []) = pick (eqb c alef_maksura) yeh c ∷ []
suffix_all_alef_maqsura (c ∷ d ∷ w) = c ∷ suffix_all_alef_maqsura (d ∷ w)

-- as a step: it succeeds where the last letter is 0649
abbrev pub maqsura : Step Cutting
maqsura v = pick (ends_with v.text (alef_maksura ∷ [])) (done (record { text = suffix_all_alef_maqsura v.text; cuts = v.cuts })) (failed v)

-- verb, noun, and behind them the last 0649
abbrev pub all_ending_choices : Kind → Step Cutting → Step Cutting → List (Step Cutting)
all_ending_choices k by_verb by_noun = ending_choices k by_verb by_noun ++ (maqsura ∷ [])

-- item 3, and the letters that it leaves
abbrev pub all_endings : Kind → Word → Try Cutting
all_endings k n = first_of (all_ending_choices k verb (noun k)) (uncut n)

abbrev pub endings_leave : Kind → Word → Word
endings_leave k n = (after (all_endings k n)).text

-- the same in other words, where t is what comes of verb and noun: the last 0649 changes if Step3 fails
unfoldable pub maqsura_if_failed : Try Cutting → Word → Word
maqsura_if_failed (done v) w = w
maqsura_if_failed (failed v) w = suffix_all_alef_maqsura w
