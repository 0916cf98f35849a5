-- `tell_keys` meets its contract: each turn passes a letter. Assumes nothing.
use Prim.Native.Nat.{◌-◌}
use lib.ListN.{length}
use Rattle.definition.specs.Words.{Word}
use Rattle.history.specs.Steps.{Step}
use Rattle.story.specs.Telling.{KeysOf}
use Rattle.story.proofs.Keys.{Inv}
use Rattle.story.proofs.page.tell_keys.Given as goal

abbrev pub invariant-loop-cursor : goal.invariant-loop-cursor
invariant-loop-cursor g l = (s : Step) (w : Word) → KeysOf (goal.F-post g l.puts) l.step_name l.text l.initial.page s w → Inv l.text l.initial.page s l.cursor l.page

abbrev pub decreases-loop-cursor : goal.decreases-loop-cursor
decreases-loop-cursor g l = length l.text - l.cursor
