-- The examples, by computing. Assumes nothing.
use mathlib.Core.Path.{◌≡◌, refl}
use mathlib.Core.List.{List, map}
use Prim.Native.Nat.{ℕ}
use Rattle.std.specs.Fmt.{digits}
use Rattle.definition.specs.Words.{same, begins_with, ends_with}
use Rattle.definition.specs.Search.{longer, longest, met, taken}
use Rattle.definition.specs.Tries.{◌then_try◌, first_of, again, attempt}
use Rattle.definition.specs.Tables.{A_0, A_1, A_2, A_3, A_4, A_5, A_6, A_7, A_8, A_9, A_11, A_12, A_13, A_14, A_15, A_16, A_17, A_18, A_19, A_20, A_21}
use Rattle.definition.specs.Kind.{kind}
use Rattle.definition.specs.Normal.{gives, listed_for, given, normal, normalise}
use Rattle.definition.specs.Endings.{suffix, ending, cut_off, cut, verb, noun, endings, suffix_all_alef_maqsura, maqsura_if_failed}
use Rattle.definition.specs.Fronts.{prefix, replacements, not_at, front_row, replacement, change, apply, prefix_steps, started, fronts}
use Rattle.definition.specs.Finish.{last, other, finish}
use Rattle.definition.specs.Stem.{cutting, fronting, stem_of, stem, cuts, chain, applied}
use Rattle.definition.specs.Floating.{floating_marks, floating, unmarked}
use Rattle.utf8.specs.Utf8.{encode, encode1, run, step, first, filled, onto}
use Rattle.stemmer.specs.Entries.{checked, letters, bytes_of}
use Rattle.history.specs.Steps.{name, table_of, put_for, row_of, put}
use Rattle.history.specs.History.{first_by, last_by, play_by, play, row_for, is_key, keys_in, last_of, but_last, maqsura_deeds, post_deeds, stem_deeds, deeds, told as told_deeds, history}
use Rattle.history.specs.Text.{spelt, line, text, story}
use Rattle.story.specs.Entry.{story_bytes}
use Rattle.explain.specs.Explained.{told, explained}
use Rattle.explain.specs.Examples.{examples}

pub examples_right : map (λ (e : List ℕ × List ℕ). explained e.0) examples ≡ map (λ (e : List ℕ × List ℕ). e.1) examples
unfolding same begins_with ends_with longer longest met taken ◌then_try◌ first_of again attempt A_0 A_1 A_2 A_3 A_4 A_5 A_6 A_7 A_8 A_9 A_11 A_12 A_13 A_14 A_15 A_16 A_17 A_18 A_19 A_20 A_21 kind gives listed_for given normal normalise suffix ending cut_off cut verb noun endings suffix_all_alef_maqsura maqsura_if_failed prefix replacements not_at front_row replacement change apply prefix_steps started fronts last other finish cutting fronting stem_of stem cuts chain applied floating_marks floating unmarked encode encode1 run step first filled onto checked letters bytes_of name table_of put_for row_of put first_by last_by play_by play row_for is_key keys_in last_of but_last maqsura_deeds post_deeds stem_deeds deeds told_deeds history digits spelt line text story story_bytes told explained examples
examples_right = refl
