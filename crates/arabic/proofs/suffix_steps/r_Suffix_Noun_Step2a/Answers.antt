-- `suffix_steps::r_Suffix_Noun_Step2a` meets its contract: its table is A_12, with its guards and its number. Assumes nothing.
use mathlib.Core.Path.{refl}
use Rattle.definition.specs.Tables.{A_12}
use Rattle.definition.specs.Endings.{noun_step2a, suffix}
use Rattle.utf8.specs.Utf8.{encode1, encode}
use Rattle.arabic.proofs.suffix_steps.r_Suffix_Noun_Step2a.Goals as goal

pub suffix_step-requires : goal.suffix_step-requires
unfolding suffix A_12 encode encode1
suffix_step-requires c = (c.requires, (noun_step2a, (record { table = refl; letters = refl; guards = refl }, refl)))

pub returns : goal.returns
unfolding suffix A_12 encode encode1
returns c = c.suffix_step.ensures noun_step2a (record { table = refl; letters = refl; guards = refl }) refl
