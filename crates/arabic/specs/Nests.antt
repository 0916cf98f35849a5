-- Parts of items 3 and 4 that have functions of their own, put together from the lists of the definition.
use Rattle.definition.specs.Tries.{Step, in_turn, first_of}
use Rattle.definition.specs.Kind.{Kind}
use Rattle.definition.specs.Fronts.{Fronting, prefix_step3_verb_in_turn, prefix_step3_choices}
use Rattle.definition.specs.Endings.{Cutting, after_verb_step1, after_noun_step1b, noun_step1b_in_turn, noun_choices}

-- what follows the cuts of the verb's Step1
unfoldable pub after_step1 : Step Cutting
after_step1 = first_of after_verb_step1

-- what follows the noun's Step1b
unfoldable pub after_step1b : Step Cutting
after_step1b = first_of after_noun_step1b

-- the alternative with a sequel
unfoldable pub by_step1b : Step Cutting
by_step1b = in_turn (noun_step1b_in_turn after_step1b)

-- the noun's alternatives, without the Step3 behind them
unfoldable pub noun_first : Kind → Step Cutting
noun_first k = first_of (noun_choices k by_step1b)

-- the verb's part of item 4
unfoldable pub verb_steps : Step Fronting
verb_steps = in_turn prefix_step3_verb_in_turn

-- the alternatives behind Step1 and Step2
unfoldable pub prefix_step3 : Kind → Step Fronting
prefix_step3 k = first_of (prefix_step3_choices k verb_steps)
