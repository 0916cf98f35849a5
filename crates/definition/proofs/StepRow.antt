-- The row of a step: that it is the longest match, that no other row is, and that a step takes this row or none. Assumes nothing.
use mathlib.Core.Path.{◌≡◌, refl, sym, ap, ◌∙◌, subst}
use mathlib.Core.Bool.{Bool, true, false, false≢true}
use mathlib.Core.Logic.{◌⊎◌, inl, inr}
use mathlib.Core.List.{[], ◌∷◌, map}
use mathlib.Core.Option.{none, some}
use Prim.Native.Nat.{ℕ}
use lib.Dec.{eqb}
use lib.ListN.{length}
use Rattle.definition.specs.Letters.{alef_maksura}
use Rattle.definition.specs.Words.{Word, pick, same, begins_with, ends_with}
use Rattle.definition.specs.Tables.{A_3, A_4, A_5, A_6, A_7, A_8, A_9, A_11, A_12, A_13, A_14, A_15, A_16, A_17, A_18, A_19, A_20, A_21}
use Rattle.definition.specs.Search.{Rule, longer, longest, met, guard_met, taken}
use Rattle.definition.specs.Tries.{Try, done, failed, is_done}
use Rattle.definition.specs.Kind.{OPEN, DEFINED, kind_by, kind}
use Rattle.definition.specs.Endings.{SuffixStep, verb_step1, verb_step2a, verb_step2b, verb_step2c, noun_step1b, noun_step2a, noun_step2b, noun_step2c1, noun_step2c2, noun_step3, suffix, Cutting, cut_off, cut_by, cut, maqsura}
use Rattle.definition.specs.Fronts.{PrefixStep, prefix_step1, prefix_step2, prefix_step3a_noun, prefix_step3b_noun, prefix_step3_verb, prefix_step4_verb, prefix, not_at, at, Fronting, text, change, begins_with_any, apply_by, apply_unless, apply}
use Rattle.definition.specs.Listed.{checks1}
use Rattle.definition.specs.Facts.{LongestMatch, distinct}
use Rattle.definition.specs.StepRow.{OneSearch, kind_check, of_ending, alef_maqsura, of_front, table_of, match_in, ends_early, step_row, row_computed, row_samples}
use Rattle.definition.proofs.Match.{by}
use Rattle.definition.proofs.Found.{row-behind, longest_match}
use Rattle.definition.proofs.Unique.{rigid_front, rigid_end, longest_only}

-- ---- the longest match

-- the tables that the steps search are such that one row is it
distinct-table : (s : OneSearch) → distinct (table_of s) ≡ true
unfolding suffix prefix A_3 A_4 A_5 A_6 A_7 A_8 A_9 A_11 A_12 A_13 A_14 A_15 A_16 A_17 A_18 A_19 A_20 A_21 same
distinct-table kind_check = refl
distinct-table (of_ending verb_step1) = refl
distinct-table (of_ending verb_step2a) = refl
distinct-table (of_ending verb_step2b) = refl
distinct-table (of_ending verb_step2c) = refl
distinct-table (of_ending noun_step1b) = refl
distinct-table (of_ending noun_step2a) = refl
distinct-table (of_ending noun_step2b) = refl
distinct-table (of_ending noun_step2c1) = refl
distinct-table (of_ending noun_step2c2) = refl
distinct-table (of_ending noun_step3) = refl
distinct-table alef_maqsura = refl
distinct-table (of_front prefix_step1) = refl
distinct-table (of_front prefix_step2) = refl
distinct-table (of_front prefix_step3a_noun) = refl
distinct-table (of_front prefix_step3b_noun) = refl
distinct-table (of_front prefix_step3_verb) = refl
distinct-table (of_front prefix_step4_verb) = refl

match_only : (s : OneSearch) (w : Word) (r : ℕ) → LongestMatch (match_in s w) (table_of s) r → r ≡ longest (match_in s w) (table_of s)
match_only kind_check w = longest_only (begins_with w) A_3 (distinct-table kind_check) (rigid_front w)
match_only (of_ending s) w = longest_only (ends_with w) (suffix s).table (distinct-table (of_ending s)) (rigid_end w)
match_only alef_maqsura w = longest_only (ends_with w) A_21 (distinct-table alef_maqsura) (rigid_end w)
match_only (of_front s) w = longest_only (begins_with w) (prefix s).table (distinct-table (of_front s)) (rigid_front w)

-- ---- the steps that end early
pub ends_early_lem : (s : OneSearch) (w : Word) → ends_early s w ≡ true → (s ≡ of_front prefix_step2) ⊎ (s ≡ of_front prefix_step3b_noun)
unfolding not_at
ends_early_lem kind_check w e = absurd (false≢true e)
ends_early_lem (of_ending s) w e = absurd (false≢true e)
ends_early_lem alef_maqsura w e = absurd (false≢true e)
ends_early_lem (of_front prefix_step1) w e = absurd (false≢true e)
ends_early_lem (of_front prefix_step2) w e = inl refl
ends_early_lem (of_front prefix_step3a_noun) w e = absurd (false≢true e)
ends_early_lem (of_front prefix_step3b_noun) w e = inr refl
ends_early_lem (of_front prefix_step3_verb) w e = absurd (false≢true e)
ends_early_lem (of_front prefix_step4_verb) w e = absurd (false≢true e)

-- ---- the step's row
module _ (s : OneSearch) (w : Word) where
  abbrev row_by : Bool → ℕ
  row_by b = pick b (length (table_of s)) (longest (match_in s w) (table_of s))

  pub row_ended : ends_early s w ≡ true → step_row s w ≡ length (table_of s)
  row_ended e = ap row_by e

  pub row_searched : ends_early s w ≡ false → step_row s w ≡ longest (match_in s w) (table_of s)
  row_searched e = ap row_by e

  pub row-longest : ends_early s w ≡ false → LongestMatch (match_in s w) (table_of s) (step_row s w)
  row-longest e = subst (LongestMatch (match_in s w) (table_of s)) (sym (row_searched e)) (longest_match (match_in s w) (table_of s))

  pub row_only : ends_early s w ≡ false → (r : ℕ) → LongestMatch (match_in s w) (table_of s) r → r ≡ step_row s w
  row_only e r l = match_only s w r l ∙ sym (row_searched e)

-- ---- a step takes its row or none, by the guard of the row

not_behind : (s : Rule) (n : ℕ) → guard_met s (length s.table) n ≡ false
unfolding met
not_behind s n = ap (λ (k : ℕ). met s.guards k n) (row-behind s.table)

taken_by : (match : Word → Bool) (s : Rule) (n : ℕ) → taken match s n ≡ pick (guard_met s (longest match s.table) n) (some (longest match s.table)) none
unfolding taken
taken_by match s n = refl

-- a step that cuts
module _ (s : SuffixStep) (v : Cutting) where
  abbrev cut_at : Bool → Try Cutting
  cut_at b = pick b (done (cut_off v (record { step = s; row = step_row (of_ending s) v.text }))) (failed v)

  pub cut-row : cut s v ≡ cut_at (guard_met (suffix s) (step_row (of_ending s) v.text) (length v.text))
  unfolding cut
  cut-row = ap (cut_by s v) (taken_by (ends_with v.text) (suffix s) (length v.text)) ∙ go (guard_met (suffix s) (step_row (of_ending s) v.text) (length v.text))
    where
      go : (b : Bool) → cut_by s v (pick b (some (step_row (of_ending s) v.text)) none) ≡ cut_at b
      go true = refl
      go false = refl

-- a step in front
module _ (s : PrefixStep) (f : Fronting) where
  abbrev applied_at : ℕ → Try Fronting
  applied_at r = pick (guard_met (prefix s) r (length (text f))) (done (change s f (at s r))) (failed f)

  by_row : (r : ℕ) (b : Bool) → apply_by s f (pick b (some r) none) ≡ pick b (done (change s f (at s r))) (failed f)
  by_row r true = refl
  by_row r false = refl

  pub apply-row : apply s f ≡ applied_at (step_row (of_front s) f.rest)
  unfolding apply
  apply-row = by (begins_with_any f.rest (not_at s))
      (λ b.
      ap (λ (x : Bool). apply_unless x s f) b
      ∙ sym (ap (λ (x : Bool). pick x (done (change s f (at s (length (prefix s).table)))) (failed f)) (not_behind (prefix s) (length (text f))))
      ∙ ap applied_at (sym (row_ended (of_front s) f.rest b)))
      (λ b.
      ap (λ (x : Bool). apply_unless x s f) b
      ∙ ap (apply_by s f) (taken_by (begins_with f.rest) (prefix s) (length (text f)))
      ∙ by_row (longest (begins_with f.rest) (prefix s).table) (guard_met (prefix s) (longest (begins_with f.rest) (prefix s).table) (length (text f)))
      ∙ ap applied_at (sym (row_searched (of_front s) f.rest b)))

-- the kind check
pub kind_row : (w : Word) → kind w ≡ pick (guard_met checks1 (step_row kind_check w) (length w)) DEFINED OPEN
unfolding kind
kind_row w = ap kind_by (taken_by (begins_with w) checks1 (length w)) ∙ go (guard_met checks1 (step_row kind_check w) (length w))
  where
    go : (b : Bool) → kind_by (pick b (some (step_row kind_check w)) none) ≡ pick b DEFINED OPEN
    go true = refl
    go false = refl

-- the last 0649, which has no guard
pub maqsura_by_row : (v : Cutting) → is_done (maqsura v) ≡ eqb (step_row alef_maqsura v.text) 0
unfolding longest longer A_21
maqsura_by_row v = by (ends_with v.text (alef_maksura ∷ [])) (λ e. rw e refl) (λ e. rw e refl)

-- ---- the small texts, by computing
pub row_samples_right : map row_computed row_samples ≡ row_samples
unfolding same begins_with ends_with longer longest suffix prefix not_at A_3 A_4 A_5 A_6 A_7 A_8 A_9 A_11 A_12 A_13 A_14 A_15 A_16 A_17 A_18 A_19 A_20 A_21 row_computed row_samples
row_samples_right = refl
