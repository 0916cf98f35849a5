-- `step_name` meets its contract: the names stand in the steps' order. Assumes nothing.
use Rattle.std.proofs.Common.{rules}
use Rattle.history.specs.Steps.{name}
use Rattle.story.proofs.NotedRows.{name_at}
use Rattle.story.proofs.changes.step_name.Goals as goal

pub returns : goal.returns
unfolding name
returns c = let q = c.from.ensures in search (name_at, rules)
