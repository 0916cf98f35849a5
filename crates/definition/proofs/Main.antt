-- What is shown of the definition: the main theorems of this crate, each closed by the file that proves it. Assumes nothing.
use mathlib.Core.Path.{◌≡◌, refl, ap, ◌∙◌}
use mathlib.Core.Bool.{true, false}
use mathlib.Core.Logic.{◌⊎◌}
use mathlib.Core.List.{[], ◌∷◌, ◌++◌, map}
use mathlib.Core.Option.{some}
use Prim.Native.Nat.{ℕ, ◌-◌, ◌≤◌, ◌<◌}
use lib.Dec.{eqb}
use lib.ListN.{length}
use Rattle.definition.specs.Letters.{hamza, alef_hamza_above, alef, beh, waw, yeh}
use Rattle.definition.specs.Words.{Word, pick, every, begins_with, ends_with}
use Rattle.definition.specs.Tables.{Table, A_0, A_1, A_2, A_3, A_12, A_21}
use Rattle.definition.specs.Search.{row_at, longest, guard_met, taken}
use Rattle.definition.specs.Tries.{done, failed, after, is_done, again}
use Rattle.definition.specs.Kind.{Kind, OPEN, DEFINED, kind}
use Rattle.definition.specs.Normal.{normal, normalise}
use Rattle.definition.specs.Endings.{SuffixStep, noun_step1b, noun_step2a, noun_step2b, noun_step2c1, suffix, Cutting, uncut, cut_off, cut, verb, endings, suffix_all_alef_maqsura, maqsura, all_endings, maqsura_if_failed}
use Rattle.definition.specs.Fronts.{PrefixStep, prefix_step2, prefix_step3b_noun, prefix, not_at, at, Fronting, text, change, begins_with_any, apply}
use Rattle.definition.specs.Finish.{last, other, finish}
use Rattle.definition.specs.Stem.{cutting, stem_of, stem, chain, back}
use Rattle.definition.specs.Demand3.{NoKey, NoHamza, AllOf, Demand3}
use Rattle.definition.specs.Facts.{Longest, LongestMatch, distinct, all_tables, plain_letter, no_plain_key, replaced, Idle, AllCuts, NotNoonAlef, cut_word}
use Rattle.definition.specs.Examples.{computed, twelve, work, examples, samples, normalised, normal_samples}
use Rattle.definition.specs.Listed.{checks1, EveryClassListed}
use Rattle.definition.specs.StepRow.{OneSearch, kind_check, of_ending, alef_maqsura, of_front, table_of, match_in, ends_early, step_row, row_computed, row_samples}
use Rattle.definition.specs.Depends.{SameWay, OneWordTwoKinds, yeh_row, OnlyDefined, DefinedCuts, OpenCuts}
use Rattle.definition.specs.Number.{FewEndings, NoFewerEndings, counted, number_samples}
use Rattle.definition.specs.Floating.{floating, unmarked, without_marks, FloatingRanges, no_mark, mark_computed, mark_samples}
use Rattle.definition.proofs.Examples.{examples_right, depends_right, numbers_right, marks_right}
use Rattle.definition.proofs.Finish.{finish-joined, finish-all}
use Rattle.definition.proofs.Listed.{every_class_listed}
use Rattle.definition.proofs.Rows.{last_rows, other_rows, maqsura-row}
use Rattle.definition.proofs.Leave.{all-endings}
use Rattle.definition.proofs.Unique.{rigid_front, rigid_end, longest_is, distinct-all}
use Rattle.definition.proofs.StepRow.{ends_early_lem, row_ended, row-longest, row_only, cut-row, apply-row, kind_row, maqsura_by_row, row_samples_right}
use Rattle.definition.proofs.Passed.{ranges_of, plain_of, key_free_word, no_plain_keys, plain-normal, plain_word}
use Rattle.definition.proofs.Plain.{normalise-plain}
use Rattle.definition.proofs.Twice.{normalise-joined, normalise_twice, finish_free, finish-stays, finish_twice, finish_apart, finish_with_none}
use Rattle.definition.proofs.Again.{again-ends}
use Rattle.definition.proofs.NoonAlef.{no_noon_alef}
use Rattle.definition.proofs.DefinedWords.{at_most_four, only_these, only_defined, verb-before}
use Rattle.definition.proofs.Depends.{stem_of_lem, same_way}
use Rattle.definition.proofs.Number.{few_endings}
use Rattle.definition.proofs.Floating.{floating_ranges, ranges_floating, unmarked-joined, unmarked_free, free_unmarked, unmarked_twice, marks_alone, normalise-unmarked, without-joined, without_twice}
use Rattle.definition.proofs.Only.{demand3_only, no_cuts}
use Rattle.definition.proofs.Demand3.{demand3}

-- demand 3 holds of every word and its stem
pub main_demand3 : (w : Word) → Demand3 w (stem w)
main_demand3 = demand3

-- and of no other stem
pub main_only : (w s : Word) → Demand3 w s → s ≡ stem w
main_only = demand3_only

-- so normalising and finishing with no cuts between does not meet it
pub main_no_cuts : Demand3 cut_word (finish (normalise cut_word)) → ⊥
main_no_cuts = no_cuts

-- item 3 as it is run: it leaves what verb and noun leave and have cut, where a last 0649 changes if they fail
pub main_endings : (k : Kind) (n : Word) → after (all_endings k n) ≡ record { text = maqsura_if_failed (endings k n) (cutting k n).text; cuts = (cutting k n).cuts }
main_endings = all-endings

-- document 01's twelve words, and the worked examples
pub main_twelve : map computed twelve ≡ twelve
main_twelve = examples_right.0

pub main_examples : map work examples ≡ examples
main_examples = examples_right.1

-- small words that show a wrong row, guard or replacement, and what item 2 gives for each letter that it reads
pub main_samples : (map computed samples ≡ samples) × (map normalised normal_samples ≡ normal_samples)
main_samples = (examples_right.2, examples_right.3)

-- every class of every table has its guard and its replacement
pub main_listed : EveryClassListed
main_listed = every_class_listed

-- a row in front that matches and is longest is the one that the search answers; likewise at the end
pub main_front : (w : Word) (t : Table) → distinct t ≡ true → (r : ℕ) → r < length t → begins_with w (row_at t r).letters ≡ true
    → Longest (begins_with w) t r → longest (begins_with w) t ≡ r
main_front w t d = longest_is (begins_with w) t d (rigid_front w)

pub main_end : (w : Word) (t : Table) → distinct t ≡ true → (r : ℕ) → r < length t → ends_with w (row_at t r).letters ≡ true
    → Longest (ends_with w) t r → longest (ends_with w) t ≡ r
main_end w t d = longest_is (ends_with w) t d (rigid_end w)

-- all 21 tables are such tables
pub main_distinct : every distinct all_tables ≡ true
main_distinct = distinct-all

-- ---- the row of a step

-- it is the row that a search of the step's own table answers, but where a front ends at a text of its exceptions
pub main_row_by : ((w : Word) → step_row kind_check w ≡ longest (begins_with w) A_3)
    × ((s : SuffixStep) (w : Word) → step_row (of_ending s) w ≡ longest (ends_with w) (suffix s).table)
    × ((w : Word) → step_row alef_maqsura w ≡ longest (ends_with w) A_21)
    × ((s : PrefixStep) (w : Word) → step_row (of_front s) w ≡ pick (begins_with_any w (not_at s)) (length (prefix s).table) (longest (begins_with w) (prefix s).table))
main_row_by = (λ w. refl, λ s w. refl, λ w. refl, λ s w. refl)

-- where a step searches, its row is the longest match in its table, and no other row is
pub main_row : (s : OneSearch) (w : Word) → ends_early s w ≡ false
    → LongestMatch (match_in s w) (table_of s) (step_row s w) × ((r : ℕ) → LongestMatch (match_in s w) (table_of s) r → r ≡ step_row s w)
main_row s w e = (row-longest s w e, row_only s w e)

-- where it ends before, it is the table's number of rows; only two steps do
pub main_row_ended : (s : OneSearch) (w : Word) → ends_early s w ≡ true
    → (step_row s w ≡ length (table_of s)) × ((s ≡ of_front prefix_step2) ⊎ (s ≡ of_front prefix_step3b_noun))
main_row_ended s w e = (row_ended s w e, ends_early_lem s w e)

-- A step takes this row where the guard of the row is met, and else it fails, also where a shorter row would do.
pub main_row_cut : (s : SuffixStep) (v : Cutting)
    → cut s v ≡ pick (guard_met (suffix s) (step_row (of_ending s) v.text) (length v.text)) (done (cut_off v (record { step = s; row = step_row (of_ending s) v.text }))) (failed v)
main_row_cut = cut-row

pub main_row_front : (s : PrefixStep) (f : Fronting)
    → apply s f ≡ pick (guard_met (prefix s) (step_row (of_front s) f.rest) (length (text f))) (done (change s f (at s (step_row (of_front s) f.rest)))) (failed f)
main_row_front = apply-row

pub main_row_kind : (w : Word) → kind w ≡ pick (guard_met checks1 (step_row kind_check w) (length w)) DEFINED OPEN
main_row_kind = kind_row

-- the one row of A_21 has no guard
pub main_row_maqsura : (v : Cutting) → is_done (maqsura v) ≡ eqb (step_row alef_maqsura v.text) 0
main_row_maqsura = maqsura_by_row

-- small texts that show a wrong row
pub main_row_samples : map row_computed row_samples ≡ row_samples
main_row_samples = row_samples_right

-- ---- plain letters

-- a letter is plain if it is one of 0621 to 063A or 0641 to 064A, and only then
pub main_plain_ranges : (c : ℕ) → (plain_letter c ≡ true → ((0x621 ≤ c) × (c ≤ 0x63A)) ⊎ ((0x641 ≤ c) × (c ≤ 0x64A)))
    × (((0x621 ≤ c) × (c ≤ 0x63A)) ⊎ ((0x641 ≤ c) × (c ≤ 0x64A)) → plain_letter c ≡ true)
main_plain_ranges c = (ranges_of c, plain_of c)

-- no key of A_0 is plain
pub main_plain_keys : every no_plain_key A_0 ≡ true
main_plain_keys = no_plain_keys

-- so item 2 keeps a plain letter, and a word of plain letters alone
pub main_plain : (c : ℕ) → plain_letter c ≡ true → normal c ≡ c ∷ []
main_plain = plain-normal

pub main_plain_word : (w : Word) → every plain_letter w ≡ true → normalise w ≡ w
main_plain_word = plain_word

-- item 2 of two words joined is item 2 of each, joined
pub main_normalise_joined : (u v : Word) → normalise (u ++ v) ≡ normalise u ++ normalise v
main_normalise_joined = normalise-joined

-- no letter that item 2 leaves is a key of A_0, and letters that are none it leaves as they are: so twice is once
pub main_no_key : (w : Word) → AllOf NoKey (normalise w)
main_no_key = normalise-plain

pub main_key_free : (w : Word) → AllOf NoKey w → normalise w ≡ w
main_key_free = key_free_word

pub main_normalise_twice : (w : Word) → normalise (normalise w) ≡ normalise w
main_normalise_twice = normalise_twice

-- a step that is repeated as often as the word has letters ends where it takes no row
pub main_again : (s : SuffixStep) (n : ℕ) (v : Cutting) → length v.text ≤ n → (x : Cutting) × (again n (cut s) v ≡ done x) × Idle s x
main_again = again-ends

-- the row 0646 0627 of the verb's Step2a cuts in no word
pub main_noon_alef : (k : Kind) (n : Word) → AllCuts NotNoonAlef (cutting k n).cuts
main_noon_alef = no_noon_alef

-- ---- what a stem depends on

-- items 3 to 5 read the normalised word and the kind alone: two words that have both in common go the same way to the same stem
pub main_stem_of : (w : Word) → stem w ≡ stem_of (kind w) (normalise w)
main_stem_of = stem_of_lem

pub main_depends : (u w : Word) → normalise u ≡ normalise w → kind u ≡ kind w → SameWay u w
main_depends = same_way

-- the kind is needed: document 01's fifth and sixth words have one normalised form, two kinds and two stems
pub main_kind_needed : OneWordTwoKinds
main_kind_needed = depends_right.0

-- a defined word loses at most four letters behind
pub main_four : (w : Word) → kind w ≡ DEFINED → length (back w) ≤ 4
main_four = at_most_four

-- a cut by the noun's Step1b, Step2b or Step2c1, or by the row 064A of its Step2a, is in a defined word
pub main_these : (r : ℕ) → OnlyDefined noun_step1b r × OnlyDefined noun_step2b r × OnlyDefined noun_step2c1 r × OnlyDefined noun_step2a yeh_row × ((row_at A_12 yeh_row).letters ≡ yeh ∷ [])
main_these = only_these

pub main_only_defined : (w : Word) → AllCuts (λ (s : SuffixStep) (r : ℕ). OnlyDefined s r → kind w ≡ DEFINED) (chain w)
main_only_defined = only_defined

-- why: where one of them would take its row off a normalised word, the verb, which an open word tries before, succeeds
pub main_verb_before : (n : Word) (s : SuffixStep) (r : ℕ) → OnlyDefined s r → taken (ends_with n) (suffix s) (length n) ≡ some r → (v : Cutting) × (verb (uncut n) ≡ done v)
main_verb_before = verb-before

-- defined words that lose four letters, and in which each of these cuts is made; open words with the same endings
pub main_defined_cuts : DefinedCuts
main_defined_cuts = depends_right.1

pub main_open_cuts : OpenCuts
main_open_cuts = depends_right.2

-- ---- how many endings are cut (request A12)

-- n - 2 at most for a normalised word of n letters, none below 3, and 3 at most in a defined word
pub main_number : (w : Word) → FewEndings w (length (chain w))
main_number = few_endings

-- the same written out
pub main_number_below : (w : Word) → length (normalise w) < 3 → length (chain w) ≡ 0
main_number_below w = (few_endings w).below

pub main_number_most : (w : Word) → 3 ≤ length (normalise w) → length (chain w) ≤ length (normalise w) - 2
main_number_most w = (few_endings w).most

pub main_number_defined : (w : Word) → kind w ≡ DEFINED → length (chain w) ≤ 3
main_number_defined w = (few_endings w).defined

-- and not less
pub main_number_tight : NoFewerEndings
main_number_tight = numbers_right.1

-- words that have so many
pub main_number_samples : map counted number_samples ≡ number_samples
main_number_samples = numbers_right.0

-- ---- floating marks (request A5)

-- a letter is a floating mark if it is one of FE70 to FE72, FE74, and FE76 to FE7F, and only then
pub main_floating : (c : ℕ) → (floating c ≡ true → FloatingRanges c) × (FloatingRanges c → floating c ≡ true)
main_floating c = (floating_ranges c, ranges_floating c)

-- a word without its marks has none, a word that has none stays, and of two words joined the marks of each go
pub main_unmarked_free : (w : Word) → no_mark (unmarked w) ≡ true
main_unmarked_free = unmarked_free

pub main_free_unmarked : (w : Word) → no_mark w ≡ true → unmarked w ≡ w
main_free_unmarked = free_unmarked

pub main_unmarked_joined : (u v : Word) → unmarked (u ++ v) ≡ unmarked u ++ unmarked v
main_unmarked_joined = unmarked-joined

-- what is asked of a word, its stem, kind or normalised form, is what is asked of the word without its marks
pub main_unmarked_same : {A : Type 0} (f : Word → A) (w : Word) → without_marks f (unmarked w) ≡ without_marks f w
main_unmarked_same f w = ap f (unmarked_twice w)

-- and of a word with no mark it is what items 1 to 5 give
pub main_free_same : {A : Type 0} (f : Word → A) (w : Word) → no_mark w ≡ true → without_marks f w ≡ f w
main_free_same f w h = ap f (free_unmarked w h)

-- demand 3 holds of the word without its marks: n is counted when they are gone
pub main_unmarked_demand3 : (w : Word) → without_marks Demand3 w (without_marks stem w)
main_unmarked_demand3 w = demand3 (unmarked w)

-- a word of marks alone has an empty stem and an empty normalised form, and is open
pub main_marks_alone : (w : Word) → every floating w ≡ true → (without_marks stem w ≡ []) × (without_marks normalise w ≡ []) × (without_marks kind w ≡ OPEN)
main_marks_alone w h = let e = marks_alone w h in (ap stem e ∙ marks_right.1, ap normalise e ∙ marks_right.2, ap kind e ∙ marks_right.3)

-- item 2 keeps a mark and gives none, so that the normalised form is the same where the marks go after it; the kind is not, as the samples show
pub main_marks_late : (w : Word) → without_marks normalise w ≡ unmarked (normalise w)
main_marks_late = normalise-unmarked

-- item 2 without the marks: of two words joined it is that of each, joined, and twice is once
pub main_unmarked_normalise_joined : (u v : Word) → without_marks normalise (u ++ v) ≡ without_marks normalise u ++ without_marks normalise v
main_unmarked_normalise_joined = without-joined

pub main_unmarked_normalise_twice : (w : Word) → without_marks normalise (without_marks normalise w) ≡ without_marks normalise w
main_unmarked_normalise_twice = without_twice

-- two words whose letters without the marks have one normalised form and one kind go the same way to the same stem
pub main_unmarked_depends : (u w : Word) → without_marks normalise u ≡ without_marks normalise w → without_marks kind u ≡ without_marks kind w → SameWay (unmarked u) (unmarked w)
main_unmarked_depends u w = same_way (unmarked u) (unmarked w)

-- words with marks, with their kinds and stems before the request and now
pub main_mark_samples : map mark_computed mark_samples ≡ mark_samples
main_mark_samples = marks_right.0

-- ---- finishing

-- item 5: the last letter changes as a last letter, and each before it as another
pub main_finish : (w : Word) (c : ℕ) → finish (w ++ (c ∷ [])) ≡ map other w ++ (last c ∷ [])
main_finish = finish-all

-- it leaves none of 0622 to 0626, and a word with none of them as it is: so twice is once
pub main_no_hamza : (w : Word) → AllOf NoHamza (finish w)
main_no_hamza = finish_free

pub main_hamza_free : (w : Word) → AllOf NoHamza w → finish w ≡ w
main_hamza_free = finish-stays

pub main_finish_twice : (w : Word) → finish (finish w) ≡ finish w
main_finish_twice = finish_twice

-- Item 5 of two words joined is another thing than item 5 of each, joined: every letter of the first changes as another, also its last.
pub main_finish_joined : (u : Word) (c : ℕ) (v : Word) → finish (u ++ (c ∷ v)) ≡ map other u ++ finish (c ∷ v)
main_finish_joined = finish-joined

-- 0623 and 0628 show it, and no words of fewer letters do: with an empty word both are the same
pub main_finish_apart : (finish (alef_hamza_above ∷ beh ∷ []) ≡ alef ∷ beh ∷ []) × (finish (alef_hamza_above ∷ []) ++ finish (beh ∷ []) ≡ hamza ∷ beh ∷ [])
main_finish_apart = finish_apart

pub main_finish_none : (w : Word) → (finish ([] ++ w) ≡ finish [] ++ finish w) × (finish (w ++ []) ≡ finish w ++ finish [])
main_finish_none = finish_with_none

-- the letters that items 5 and 3 name in words are the rows of A_1, A_2 and A_21
pub main_last : (c : ℕ) → last c ≡ replaced A_1 (hamza ∷ hamza ∷ hamza ∷ []) c
main_last = last_rows

pub main_other : (c : ℕ) → other c ≡ replaced A_2 (alef ∷ waw ∷ yeh ∷ []) c
main_other = other_rows

pub main_maqsura : (c : ℕ) → suffix_all_alef_maqsura (c ∷ []) ≡ replaced A_21 (yeh ∷ []) c ∷ []
main_maqsura = maqsura-row
