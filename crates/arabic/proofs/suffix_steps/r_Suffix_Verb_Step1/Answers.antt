-- `suffix_steps::r_Suffix_Verb_Step1` meets its contract: its table is A_17, with its guards and its number. Assumes nothing.
use mathlib.Core.Path.{refl}
use Rattle.definition.specs.Tables.{A_17}
use Rattle.definition.specs.Endings.{verb_step1, suffix}
use Rattle.utf8.specs.Utf8.{encode1, encode}
use Rattle.arabic.proofs.suffix_steps.r_Suffix_Verb_Step1.Goals as goal

pub suffix_step-requires : goal.suffix_step-requires
unfolding suffix A_17 encode encode1
suffix_step-requires c = (c.requires, (verb_step1, (record { table = refl; letters = refl; guards = refl }, refl)))

pub returns : goal.returns
unfolding suffix A_17 encode encode1
returns c = c.suffix_step.ensures verb_step1 (record { table = refl; letters = refl; guards = refl }) refl
