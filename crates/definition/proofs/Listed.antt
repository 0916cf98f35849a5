-- Every class is listed, by computing. Assumes nothing.
use mathlib.Core.Path.{◌≡◌, refl}
use mathlib.Core.Bool.{true}
use Rattle.definition.specs.Tables.{A_0, A_3, A_4, A_5, A_6, A_7, A_8, A_9, A_11, A_12, A_13, A_14, A_15, A_16, A_17, A_18, A_19, A_20}
use Rattle.definition.specs.Kind.{kind}
use Rattle.definition.specs.Normal.{gives}
use Rattle.definition.specs.Endings.{SuffixStep, verb_step1, verb_step2a, verb_step2b, verb_step2c, noun_step1b, noun_step2a, noun_step2b, noun_step2c1, noun_step2c2, noun_step3, suffix}
use Rattle.definition.specs.Fronts.{PrefixStep, prefix_step1, prefix_step2, prefix_step3a_noun, prefix_step3b_noun, prefix_step3_verb, prefix_step4_verb, prefix, replacements}
use Rattle.definition.specs.Listed.{has_guards, has_replacements, EveryClassListed}

suffix_guarded : (s : SuffixStep) → has_guards (suffix s) ≡ true
unfolding suffix A_11 A_12 A_13 A_14 A_15 A_16 A_17 A_18 A_19 A_20
suffix_guarded verb_step1 = refl
suffix_guarded verb_step2a = refl
suffix_guarded verb_step2b = refl
suffix_guarded verb_step2c = refl
suffix_guarded noun_step1b = refl
suffix_guarded noun_step2a = refl
suffix_guarded noun_step2b = refl
suffix_guarded noun_step2c1 = refl
suffix_guarded noun_step2c2 = refl
suffix_guarded noun_step3 = refl

prefix-both : (s : PrefixStep) → (has_guards (prefix s) ≡ true) × (has_replacements s ≡ true)
unfolding prefix replacements A_4 A_5 A_6 A_7 A_8 A_9
prefix-both prefix_step1 = (refl, refl)
prefix-both prefix_step2 = (refl, refl)
prefix-both prefix_step3a_noun = (refl, refl)
prefix-both prefix_step3b_noun = (refl, refl)
prefix-both prefix_step3_verb = (refl, refl)
prefix-both prefix_step4_verb = (refl, refl)

pub every_class_listed : EveryClassListed
unfolding kind gives A_0 A_3
every_class_listed = record {
  kind_by_classes = λ w. refl;
  kind_guards = refl;
  normal_gives = refl;
  normal_deletes = refl;
  suffix_guards = suffix_guarded;
  prefix_guards = λ s. (prefix-both s).0;
  prefix_replacements = λ s. (prefix-both s).1;
}
