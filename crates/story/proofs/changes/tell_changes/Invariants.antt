-- `tell_changes` meets its contract: each turn writes the line of one change. Assumes nothing.
use mathlib.Core.List.{List}
use Rattle.history.specs.Steps.{Deed}
use Rattle.story.specs.Telling.{Fits, AllNoted}
use Rattle.story.proofs.NotedRows.{Inv}
use Rattle.story.proofs.changes.tell_changes.Given as goal

abbrev pub invariant-loop-change : goal.invariant-loop-change
invariant-loop-change l = (ds : List Deed) → AllNoted ds l.changes → Fits l.initial.page ds → Inv ds l.changes l.initial.page l.change-index l.page
