-- The examples, by computing. Assumes nothing.
use mathlib.Core.Path.{◌≡◌, refl}
use mathlib.Core.List.{[], map}
use native.Mathlib.Omega.{arith}
use lib.Dec.{ltb}
use borrow.Author.Tests.{ltb-true, ltb-false}
use Rattle.definition.specs.Words.{same, begins_with, ends_with}
use Rattle.definition.specs.Search.{longer, longest, met, taken}
use Rattle.definition.specs.Tries.{◌then_try◌, first_of, again, attempt}
use Rattle.definition.specs.Tables.{A_0, A_3, A_4, A_5, A_6, A_7, A_8, A_9, A_11, A_12, A_13, A_14, A_15, A_16, A_17, A_18, A_19, A_20}
use Rattle.definition.specs.Kind.{OPEN, kind}
use Rattle.definition.specs.Normal.{gives, listed_for, given, normal, normalise}
use Rattle.definition.specs.Endings.{suffix, ending, joined, cut_off, cut, verb, noun, endings, suffix_all_alef_maqsura, maqsura_if_failed}
use Rattle.definition.specs.Fronts.{prefix, replacements, not_at, front_row, replacement, change, apply, prefix_steps, started, fronts}
use Rattle.definition.specs.Finish.{last, other, finish}
use Rattle.definition.specs.Stem.{cutting, fronting, stem_of, stem, cuts, chain, back, applied}
use Rattle.definition.specs.Examples.{computed, twelve, work, examples, samples, normalised, normal_samples}
use Rattle.definition.specs.Depends.{OneWordTwoKinds, four_go, DefinedCuts, OpenCuts}
use Rattle.definition.specs.Number.{one_goes, NoFewerEndings, counted, number_samples}
use Rattle.definition.specs.Floating.{floating_marks, floating, unmarked, mark_computed, mark_samples}
use Rattle.definition.proofs.Match.{by}

pub examples_right : (map computed twelve ≡ twelve) × (map work examples ≡ examples) × (map computed samples ≡ samples) × (map normalised normal_samples ≡ normal_samples)
unfolding same begins_with ends_with longer longest met taken ◌then_try◌ first_of again attempt A_0 A_3 A_4 A_5 A_6 A_7 A_8 A_9 A_11 A_12 A_13 A_14 A_15 A_16 A_17 A_18 A_19 A_20 kind gives listed_for given normal normalise suffix ending cut_off cut verb noun endings suffix_all_alef_maqsura maqsura_if_failed prefix replacements not_at front_row replacement change apply prefix_steps started fronts last other finish cutting fronting stem_of stem cuts chain applied computed twelve work examples samples normalised normal_samples
examples_right = (refl, refl, refl, refl)

-- ---- what a stem depends on, and cuts in defined and in open words

pub depends_right : OneWordTwoKinds × DefinedCuts × OpenCuts
unfolding same begins_with ends_with longer longest met taken ◌then_try◌ first_of again attempt A_0 A_3 A_4 A_5 A_6 A_7 A_8 A_9 A_11 A_12 A_13 A_14 A_15 A_16 A_17 A_18 A_19 A_20 kind gives listed_for given normal normalise suffix ending joined cut_off cut verb noun endings suffix_all_alef_maqsura maqsura_if_failed prefix replacements not_at front_row replacement change apply prefix_steps started fronts last other finish cutting fronting stem_of stem cuts chain back twelve
depends_right = (
  record { words = refl; letters = refl; forms = refl; mark = refl; letters_kind = refl; forms_kind = refl; mark_kind = refl; letters_stem = refl; forms_stem = refl },
  record { four = (refl, refl); size = refl; fifth = (refl, refl); step1b = (refl, refl); step2b = (refl, refl); step2c1 = (refl, refl); step2a = (refl, refl) },
  record { ends_noon = (refl, refl); ends_kaf_noon = (refl, refl); ends_alef_teh = (refl, refl); ends_teh_noon = (refl, refl); ends_yeh = (refl, refl) },
)

-- ---- how many endings are cut

pub numbers_right : (map counted number_samples ≡ number_samples) × NoFewerEndings
unfolding same begins_with ends_with longer longest met taken ◌then_try◌ first_of again A_0 A_3 A_11 A_12 A_13 A_14 A_15 A_16 A_17 A_18 A_19 A_20 kind gives listed_for given normal normalise suffix ending cut_off cut verb noun endings cutting cuts chain counted number_samples
numbers_right = (
  refl,
  record {
    below = λ b h. by (ltb 3 b) (λ e. let z = h one_goes (ltb-true 3 b e) in absurd (omega (arith, z))) (λ e. ltb-false 3 b e);
    most = λ b h. let z = h one_goes (omega arith) in omega (arith, z);
    defined = λ b h. let z = h four_go refl in omega (arith, z);
  },
)

-- ---- floating marks, and the empty word that is left of marks alone

pub marks_right : (map mark_computed mark_samples ≡ mark_samples) × (stem [] ≡ []) × (normalise [] ≡ []) × (kind [] ≡ OPEN)
unfolding same begins_with ends_with longer longest met taken ◌then_try◌ first_of again attempt A_0 A_3 A_4 A_5 A_6 A_7 A_8 A_9 A_11 A_12 A_13 A_14 A_15 A_16 A_17 A_18 A_19 A_20 kind gives listed_for given normal normalise suffix ending cut_off cut verb noun endings suffix_all_alef_maqsura maqsura_if_failed prefix replacements not_at front_row replacement change apply prefix_steps started fronts last other finish cutting fronting stem_of stem floating_marks floating unmarked mark_computed mark_samples
marks_right = (refl, refl, refl, refl)
