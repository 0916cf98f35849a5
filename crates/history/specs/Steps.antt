-- The steps that change letters: each one's name, its table, and what it puts for a row.
-- Every change of the Rust follows a search of a table, and so has a row there; the floating marks of request A5 are a table of ours, a row for each letter.
use Rattle.std.specs.Prelude.{ℕ, ◌-◌, List, [], ◌∷◌, ◌++◌, eqb, drop, get_or, codes}
use Prim.Native.String.{String}
use Rattle.definition.specs.Letters.{hamza, alef, waw, yeh}
use Rattle.definition.specs.Words.{Word, pick}
use Rattle.definition.specs.Tables.{Table, one, A_0, A_1, A_2, A_21}
use Rattle.definition.specs.Search.{row_at}
use Rattle.definition.specs.Normal.{gives, listed_for}
use Rattle.definition.specs.Endings.{SuffixStep, verb_step1, verb_step2a, verb_step2b, verb_step2c, noun_step1b, noun_step2a, noun_step2b, noun_step2c1, noun_step2c2, noun_step3, suffix}
use Rattle.definition.specs.Fronts.{PrefixStep, prefix_step1, prefix_step2, prefix_step3a_noun, prefix_step3b_noun, prefix_step3_verb, prefix_step4_verb, prefix, replacements}
use Rattle.definition.specs.Floating.{floating_marks}

-- r_Normalize_post is two steps: the last letter, and the others
pub data Step : Type 0 where
  floating_mark normalize_pre alef_maqsura normalize_post_last normalize_post_other : Step
  ending : SuffixStep → Step
  front : PrefixStep → Step

-- ---- names

-- a space for each underscore
abbrev pub spaced : List ℕ → List ℕ
spaced [] = []
spaced (c ∷ cs) = pick (eqb c 0x5F) 0x20 c ∷ spaced cs

-- the name of a Rust function without r_, with spaces for underscores
abbrev pub rust_name : String → List ℕ
rust_name f = spaced (drop 2 (codes f))

unfoldable pub name : Step → List ℕ
name floating_mark = codes "Floating mark"
name normalize_pre = rust_name "r_Normalize_pre"
name (ending verb_step1) = rust_name "r_Suffix_Verb_Step1"
name (ending verb_step2a) = rust_name "r_Suffix_Verb_Step2a"
name (ending verb_step2b) = rust_name "r_Suffix_Verb_Step2b"
name (ending verb_step2c) = rust_name "r_Suffix_Verb_Step2c"
name (ending noun_step1b) = rust_name "r_Suffix_Noun_Step1b"
name (ending noun_step2a) = rust_name "r_Suffix_Noun_Step2a"
name (ending noun_step2b) = rust_name "r_Suffix_Noun_Step2b"
name (ending noun_step2c1) = rust_name "r_Suffix_Noun_Step2c1"
name (ending noun_step2c2) = rust_name "r_Suffix_Noun_Step2c2"
name (ending noun_step3) = rust_name "r_Suffix_Noun_Step3"
name alef_maqsura = rust_name "r_Suffix_All_alef_maqsura"
name (front prefix_step1) = rust_name "r_Prefix_Step1"
name (front prefix_step2) = rust_name "r_Prefix_Step2"
name (front prefix_step3a_noun) = rust_name "r_Prefix_Step3a_Noun"
name (front prefix_step3b_noun) = rust_name "r_Prefix_Step3b_Noun"
name (front prefix_step3_verb) = rust_name "r_Prefix_Step3_Verb"
name (front prefix_step4_verb) = rust_name "r_Prefix_Step4_Verb"
name normalize_post_last = rust_name "r_Normalize_post" ++ codes " last"
name normalize_post_other = rust_name "r_Normalize_post" ++ codes " other"

-- every step once
abbrev pub steps : List Step
steps =
    floating_mark ∷ normalize_pre
    ∷ ending verb_step1 ∷ ending verb_step2a ∷ ending verb_step2b ∷ ending verb_step2c
    ∷ ending noun_step1b ∷ ending noun_step2a ∷ ending noun_step2b ∷ ending noun_step2c1 ∷ ending noun_step2c2 ∷ ending noun_step3
    ∷ alef_maqsura
    ∷ front prefix_step1 ∷ front prefix_step2 ∷ front prefix_step3a_noun ∷ front prefix_step3b_noun ∷ front prefix_step3_verb ∷ front prefix_step4_verb
    ∷ normalize_post_last ∷ normalize_post_other ∷ []

-- ---- rows, and what is put for them

-- a row of class 1 for each letter
abbrev pub letter_rows : Word → Table
letter_rows [] = []
letter_rows (c ∷ cs) = one c 1 ∷ letter_rows cs

unfoldable pub table_of : Step → Table
table_of floating_mark = letter_rows floating_marks
table_of normalize_pre = A_0
table_of (ending s) = (suffix s).table
table_of alef_maqsura = A_21
table_of (front s) = (prefix s).table
table_of normalize_post_last = A_1
table_of normalize_post_other = A_2

-- what a step puts for a row of the class k; no letter where the row is deleted
unfoldable pub put_for : Step → ℕ → Word
put_for floating_mark k = []
put_for normalize_pre k = listed_for gives k
put_for (ending s) k = []
put_for alef_maqsura k = yeh ∷ []
put_for (front s) k = get_or (replacements s) (k - 1) []
put_for normalize_post_last k = hamza ∷ []
put_for normalize_post_other k = get_or ((alef ∷ []) ∷ (waw ∷ []) ∷ (yeh ∷ []) ∷ []) (k - 1) []

-- ---- a deed: a step, and the number of the row that it takes

pub record Deed : Type 0 where
  pub step : Step
  pub row : ℕ

abbrev pub by : Step → ℕ → Deed
by s r = record { step = s; row = r }

unfoldable pub row_of : Deed → Word
row_of d = (row_at (table_of d.step) d.row).letters

unfoldable pub put : Deed → Word
put d = put_for d.step (row_at (table_of d.step) d.row).class
