-- `prefix_halves::front_row` meets its contract: the longest row, its guard and the letter count decide as the definition does. Assumes nothing.
use mathlib.Core.Path.{sym, ap, ◌∙◌, subst}
use mathlib.Core.List.{List}
use Prim.Native.Nat.{ℕ}
use lib.ListN.{length}
use Rattle.std.specs.Prelude.{Option}
use Rattle.definition.specs.Search.{met}
use Rattle.definition.specs.Fronts.{prefix}
use Rattle.arabic.specs.declared.prefix_halves.TakenRow.{TakenRow}
use Rattle.arabic.specs.Fronts.{Takes}
use Rattle.arabic.proofs.Guarded.{from_here}
use Rattle.arabic.proofs.Fronted.{takes}
use Rattle.arabic.proofs.prefix_halves.front_row.Goals as goal

pub returns : goal.returns
returns c =
    let a = c.args in
    let f = c.find_among-found in
    λ s q t rest e b.
    subst (λ (o : Option TakenRow). Takes s t rest a.cursor (record { row = f.result.row; outcome = o })) (sym c.then_some.ensures)
    (takes s t rest a.cursor f.result (f.ensures.ahead (prefix s).table q.table q.letters rest b.0 (from_here a.text.now a.cursor ∙ b.1)) c.met-taken.result
    (c.met-taken.ensures t e ∙ ap (λ (guards : List ℕ). met guards f.result.class (length t)) q.guards))
