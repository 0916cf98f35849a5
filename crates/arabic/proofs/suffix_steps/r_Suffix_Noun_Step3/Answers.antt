-- `suffix_steps::r_Suffix_Noun_Step3` meets its contract: its table is A_16, with its guards and its number. Assumes nothing.
use mathlib.Core.Path.{refl}
use Rattle.definition.specs.Tables.{A_16}
use Rattle.definition.specs.Endings.{noun_step3, suffix}
use Rattle.utf8.specs.Utf8.{encode1, encode}
use Rattle.arabic.proofs.suffix_steps.r_Suffix_Noun_Step3.Goals as goal

pub suffix_step-requires : goal.suffix_step-requires
unfolding suffix A_16 encode encode1
suffix_step-requires c = (c.requires, (noun_step3, (record { table = refl; letters = refl; guards = refl }, refl)))

pub returns : goal.returns
unfolding suffix A_16 encode encode1
returns c = c.suffix_step.ensures noun_step3 (record { table = refl; letters = refl; guards = refl }) refl
