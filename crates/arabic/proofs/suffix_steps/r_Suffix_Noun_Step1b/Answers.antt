-- `suffix_steps::r_Suffix_Noun_Step1b` meets its contract: its table is A_11, with its guards and its number. Assumes nothing.
use mathlib.Core.Path.{refl}
use Rattle.definition.specs.Tables.{A_11}
use Rattle.definition.specs.Endings.{noun_step1b, suffix}
use Rattle.utf8.specs.Utf8.{encode1, encode}
use Rattle.arabic.proofs.suffix_steps.r_Suffix_Noun_Step1b.Goals as goal

pub suffix_step-requires : goal.suffix_step-requires
unfolding suffix A_11 encode encode1
suffix_step-requires c = (c.requires, (noun_step1b, (record { table = refl; letters = refl; guards = refl }, refl)))

pub returns : goal.returns
unfolding suffix A_11 encode encode1
returns c = c.suffix_step.ensures noun_step1b (record { table = refl; letters = refl; guards = refl }) refl
