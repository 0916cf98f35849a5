-- `normalize::changed_of` meets its contract: a letter that is in no row stays. Assumes nothing.
use Rattle.std.proofs.Common.{rules}
use Rattle.arabic.proofs.FinishedLetter.{stays-below, stays_above}
use Rattle.arabic.proofs.normalize.changed_of.Goals as goal

pub returns-in_default : goal.returns-in_default
returns-in_default c = search (rules, stays-below, stays_above)

pub returns-in_default-2 : goal.returns-in_default-2
returns-in_default-2 c = search (rules, stays-below, stays_above)
