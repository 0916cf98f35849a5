-- Each pair of the table: the words by computing, the others by their laws. Assumes nothing.
use mathlib.Core.Path.{refl}
use Rattle.definition.specs.Words.{same, begins_with, ends_with}
use Rattle.definition.specs.Search.{longer, longest, met, taken}
use Rattle.definition.specs.Tries.{◌then_try◌, first_of, again, attempt}
use Rattle.definition.specs.Tables.{A_0, A_3, A_4, A_5, A_6, A_7, A_8, A_9, A_11, A_12, A_13, A_14, A_15, A_16, A_17, A_18, A_19, A_20}
use Rattle.definition.specs.Kind.{kind}
use Rattle.definition.specs.Normal.{gives, listed_for, given, normal, normalise}
use Rattle.definition.specs.Endings.{suffix, ending, cut_off, cut, verb, noun, endings, suffix_all_alef_maqsura, maqsura_if_failed}
use Rattle.definition.specs.Fronts.{prefix, replacements, not_at, front_row, replacement, change, apply, prefix_steps, started, fronts}
use Rattle.definition.specs.Finish.{last, other, finish}
use Rattle.definition.specs.Stem.{cutting, fronting, stem_of, stem}
use Rattle.order.specs.Order.{exchanged, ordered, verb_by, noun_by, endings_by, prefix_steps_by, finish_by, stem_by}
use Rattle.order.specs.Settled.{AllHold, settled}
use Rattle.order.proofs.Kept.{verbs_0_kept, verb_sequel_0_kept, nouns_1_kept, nouns_2_kept, step1b_sequel_0_kept, thirds_0_kept, thirds_1_kept}

pub settled_hold : AllHold settled
unfolding same begins_with ends_with longer longest met taken ◌then_try◌ first_of again attempt A_0 A_3 A_4 A_5 A_6 A_7 A_8 A_9 A_11 A_12 A_13 A_14 A_15 A_16 A_17 A_18 A_19 A_20 kind gives listed_for given normal normalise suffix ending cut_off cut verb noun endings suffix_all_alef_maqsura maqsura_if_failed prefix replacements not_at front_row replacement change apply prefix_steps started fronts last other finish cutting fronting stem_of stem exchanged ordered verb_by noun_by endings_by prefix_steps_by finish_by stem_by settled
settled_hold = (
  record { stem = refl; other = refl; differ = refl },
  (
    record { stem = refl; other = refl; differ = refl },
    (
      record { stem = refl; other = refl; differ = refl },
      (
        record { stem = refl; other = refl; differ = refl },
        (
          record { stem = refl; other = refl; differ = refl },
          (
            record { stem = refl; other = refl; differ = refl },
            (
              verbs_0_kept,
              (
                record { stem = refl; other = refl; differ = refl },
                (
                  record { stem = refl; other = refl; differ = refl },
                  (
                    verb_sequel_0_kept,
                    (
                      record { stem = refl; other = refl; differ = refl },
                      (
                        record { stem = refl; other = refl; differ = refl },
                        (
                          record { stem = refl; other = refl; differ = refl },
                          (
                            nouns_1_kept,
                            (
                              nouns_2_kept,
                              (
                                record { stem = refl; other = refl; differ = refl },
                                (
                                  record { stem = refl; other = refl; differ = refl },
                                  (
                                    step1b_sequel_0_kept,
                                    (
                                      record { stem = refl; other = refl; differ = refl },
                                      (
                                        record { stem = refl; other = refl; differ = refl },
                                        (
                                          record { stem = refl; other = refl; differ = refl },
                                          (
                                            thirds_0_kept,
                                            (
                                              thirds_1_kept,
                                              (
                                                record { stem = refl; other = refl; differ = refl },
                                                (record { stem = refl; other = refl; differ = refl }, tt),
                                              ),
                                            ),
                                          ),
                                        ),
                                      ),
                                    ),
                                  ),
                                ),
                              ),
                            ),
                          ),
                        ),
                      ),
                    ),
                  ),
                ),
              ),
            ),
          ),
        ),
      ),
    ),
  ),
)
