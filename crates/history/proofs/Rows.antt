-- Every step is one of the list of steps, so that one computed test serves all steps, and all their rows. Assumes nothing.
use mathlib.Core.Path.{◌≡◌, refl}
use mathlib.Core.Bool.{Bool, true, false, not}
use mathlib.Core.List.{List, [], ◌∷◌}
use Prim.Native.Nat.{ℕ}
use native.Mathlib.Omega.{arith}
use lib.Dec.{ltb}
use borrow.Author.Tests.{not-true}
use Rattle.std.specs.List.{All, Contains}
use Rattle.std.proofs.lemmas.List.Elements.{All-nil, All-cons, All-contains}
use Rattle.definition.specs.Words.{every, same}
use Rattle.definition.specs.Tables.{Row, A_0, A_1, A_2, A_4, A_5, A_6, A_7, A_8, A_9, A_11, A_12, A_13, A_14, A_15, A_16, A_17, A_18, A_19, A_20, A_21}
use Rattle.definition.specs.Search.{row_at}
use Rattle.definition.specs.Normal.{gives, listed_for}
use Rattle.definition.specs.Endings.{verb_step1, verb_step2a, verb_step2b, verb_step2c, noun_step1b, noun_step2a, noun_step2b, noun_step2c1, noun_step2c2, noun_step3, suffix}
use Rattle.definition.specs.Fronts.{prefix_step1, prefix_step2, prefix_step3a_noun, prefix_step3b_noun, prefix_step3_verb, prefix_step4_verb, prefix, replacements}
use Rattle.definition.specs.Facts.{distinct}
use Rattle.definition.specs.Floating.{floating_marks}
use Rattle.definition.proofs.Match.{both_0, both_1}
use Rattle.definition.proofs.Found.{all_at}
use Rattle.history.specs.Steps.{Step, floating_mark, normalize_pre, alef_maqsura, normalize_post_last, normalize_post_other, ending, front, steps, table_of, put_for, Deed, row_of, put}
use Rattle.history.specs.Laws.{Listed}

-- the list has every step
pub in_steps : (s : Step) → Contains steps s
in_steps floating_mark = (0, omega arith, refl)
in_steps normalize_pre = (1, omega arith, refl)
in_steps (ending verb_step1) = (2, omega arith, refl)
in_steps (ending verb_step2a) = (3, omega arith, refl)
in_steps (ending verb_step2b) = (4, omega arith, refl)
in_steps (ending verb_step2c) = (5, omega arith, refl)
in_steps (ending noun_step1b) = (6, omega arith, refl)
in_steps (ending noun_step2a) = (7, omega arith, refl)
in_steps (ending noun_step2b) = (8, omega arith, refl)
in_steps (ending noun_step2c1) = (9, omega arith, refl)
in_steps (ending noun_step2c2) = (10, omega arith, refl)
in_steps (ending noun_step3) = (11, omega arith, refl)
in_steps alef_maqsura = (12, omega arith, refl)
in_steps (front prefix_step1) = (13, omega arith, refl)
in_steps (front prefix_step2) = (14, omega arith, refl)
in_steps (front prefix_step3a_noun) = (15, omega arith, refl)
in_steps (front prefix_step3b_noun) = (16, omega arith, refl)
in_steps (front prefix_step3_verb) = (17, omega arith, refl)
in_steps (front prefix_step4_verb) = (18, omega arith, refl)
in_steps normalize_post_last = (19, omega arith, refl)
in_steps normalize_post_other = (20, omega arith, refl)

-- a test that all elements pass, each passes
pub all_pass : {A : Type 0} (p : A → Bool) (xs : List A) → every p xs ≡ true → All (λ (x : A). p x ≡ true) xs
all_pass p [] e = All-nil (λ x. p x ≡ true)
all_pass p (x ∷ xs) e = All-cons (λ x. p x ≡ true) x xs (both_0 (p x) (every p xs) e) (all_pass p xs (both_1 (p x) (every p xs) e))

-- a test that all steps pass, each passes
pub step_test : (p : Step → Bool) → every p steps ≡ true → (s : Step) → p s ≡ true
step_test p e s = All-contains (λ x. p x ≡ true) steps s (all_pass p steps e) (in_steps s)

-- a test that all rows of all steps pass
abbrev pub every_row : (Step → Row → Bool) → Bool
every_row p = every (λ (s : Step). every (p s) (table_of s)) steps

pub row_test : (p : Step → Row → Bool) → every_row p ≡ true → (d : Deed) → Listed d → p d.step (row_at (table_of d.step) d.row) ≡ true
row_test p e d h = all_at (p d.step) (table_of d.step) (step_test (λ (s : Step). every (p s) (table_of s)) e d.step) d.row h

-- ---- every row has a letter, no two rows of a table are the same, and all letters have four hexadecimal digits
pub distinct_rows : every (λ (s : Step). distinct (table_of s)) steps ≡ true
unfolding table_of floating_marks suffix prefix same A_0 A_1 A_2 A_4 A_5 A_6 A_7 A_8 A_9 A_11 A_12 A_13 A_14 A_15 A_16 A_17 A_18 A_19 A_20 A_21
distinct_rows = refl

abbrev pub four_digits : Row → Bool
four_digits k = every (λ (c : ℕ). ltb c 65536) k.letters

pub short_rows : every_row (λ (s : Step). four_digits) ≡ true
unfolding table_of floating_marks suffix prefix A_0 A_1 A_2 A_4 A_5 A_6 A_7 A_8 A_9 A_11 A_12 A_13 A_14 A_15 A_16 A_17 A_18 A_19 A_20 A_21
short_rows = refl

-- ---- no row is put back as it was
abbrev changes : Step → Row → Bool
changes s k = not (same k.letters (put_for s k.class))

all_change : every_row changes ≡ true
unfolding table_of put_for gives listed_for suffix prefix replacements floating_marks same A_0 A_1 A_2 A_4 A_5 A_6 A_7 A_8 A_9 A_11 A_12 A_13 A_14 A_15 A_16 A_17 A_18 A_19 A_20 A_21
all_change = refl

pub row_changes : (d : Deed) → Listed d → same (row_of d) (put d) ≡ false
unfolding row_of put
row_changes d h = not-true (same (row_of d) (put d)) (row_test changes all_change d h)
