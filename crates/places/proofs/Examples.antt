-- The words with their stems and places, by computing. Assumes nothing.
use mathlib.Core.Path.{◌≡◌, refl}
use mathlib.Core.List.{map}
use Rattle.definition.specs.Words.{same, begins_with, ends_with}
use Rattle.definition.specs.Search.{longer, longest, met, taken}
use Rattle.definition.specs.Tries.{◌then_try◌, first_of, again, attempt}
use Rattle.definition.specs.Tables.{A_0, A_3, A_4, A_5, A_6, A_7, A_8, A_9, A_11, A_12, A_13, A_14, A_15, A_16, A_17, A_18, A_19, A_20}
use Rattle.definition.specs.Kind.{kind}
use Rattle.definition.specs.Normal.{gives, listed_for, given, normal, normalise}
use Rattle.definition.specs.Endings.{suffix, ending, joined, cut_off, cut, verb, noun, endings, suffix_all_alef_maqsura, maqsura_if_failed}
use Rattle.definition.specs.Fronts.{prefix, replacements, not_at, front_row, replacement, change, apply, prefix_steps, started, fronts}
use Rattle.definition.specs.Finish.{last, other, finish}
use Rattle.definition.specs.Stem.{cutting, fronting, stem_of, stem, cuts, front, head_letter, without, run}
use Rattle.definition.specs.Floating.{floating_marks, floating, unmarked}
use Rattle.utf8.specs.Utf8.{encode1}
use Rattle.places.specs.Places.{typed_from, typed, letters_of, marks_out, each_at, normal_places, head_from, kept_places, stem_places, places}
use Rattle.places.specs.Examples.{places_computed, place_samples}

pub place_samples_right : map places_computed place_samples ≡ place_samples
unfolding same begins_with ends_with longer longest met taken ◌then_try◌ first_of again attempt A_0 A_3 A_4 A_5 A_6 A_7 A_8 A_9 A_11 A_12 A_13 A_14 A_15 A_16 A_17 A_18 A_19 A_20 kind gives listed_for given normal normalise suffix ending joined cut_off cut verb noun endings suffix_all_alef_maqsura maqsura_if_failed prefix replacements not_at front_row replacement change apply prefix_steps started fronts last other finish cutting fronting stem_of stem cuts front head_letter without run floating_marks floating unmarked encode1 typed_from typed letters_of marks_out each_at normal_places head_from kept_places stem_places places places_computed place_samples
place_samples_right = refl
