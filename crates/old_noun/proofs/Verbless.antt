-- The rows of A_10, and what the old definition cuts if no verb is tried, by computing. Assumes nothing.
use mathlib.Core.Path.{◌≡◌, refl}
use mathlib.Core.List.{map}
use lib.ListN.{length}
use Rattle.definition.specs.Words.{same, ends_with}
use Rattle.definition.specs.Tables.{A_11, A_12, A_13, A_14, A_15, A_16}
use Rattle.definition.specs.Search.{longer, longest, met, taken}
use Rattle.definition.specs.Tries.{◌then_try◌, first_of}
use Rattle.definition.specs.Endings.{suffix, ending, cut_off, cut, suffix_all_alef_maqsura}
use Rattle.old_noun.specs.OldNoun.{A_10, suffix_step1a, cut_step1a, old_noun, old_endings_by}
use Rattle.old_noun.specs.Facts.{without_verb, long_enough, too_short, around}

pub verbless_right : (length A_10 ≡ 10) × (map without_verb long_enough ≡ long_enough) × (map without_verb too_short ≡ too_short) × (map without_verb around ≡ around)
unfolding old_endings_by old_noun cut_step1a suffix_step1a A_10 suffix A_11 A_12 A_13 A_14 A_15 A_16 suffix_all_alef_maqsura ends_with same longer longest met taken ending cut_off cut ◌then_try◌ first_of long_enough too_short around
verbless_right = (refl, refl, refl, refl)
