-- `tell_change` meets its contract: the number gives the step and the row. Assumes nothing.
use mathlib.Core.Path.{sym, subst}
use Prim.Native.Nat.{◌/◌}
use Rattle.story.specs.Telling.{InStep}
use Rattle.story.proofs.Lines.{row_listed}
use Rattle.story.proofs.NotedRows.{in_step, deed_is}
use Rattle.story.proofs.changes.tell_change.Goals as goal

pub row_letters-requires : goal.row_letters-requires
row_letters-requires c = let r = c.requires in subst (InStep (c.args.change / 16)) (sym c.from-row.ensures) (in_step r.0 c.args.change r.1.0 (row_listed c.args.page.now r.0 r.1.1))

pub letters_put-requires : goal.letters_put-requires
letters_put-requires c = let r = c.requires in subst (InStep (c.args.change / 16)) (sym c.from-row.ensures) (in_step r.0 c.args.change r.1.0 (row_listed c.args.page.now r.0 r.1.1))

pub tell-requires : goal.tell-requires
tell-requires c =
    let r = c.requires in
    (r.0, (deed_is r.0 c.args.change r.1.0 (row_listed c.args.page.now r.0 r.1.1) c.step_name.result.now c.row_letters.result.now c.from-row.result c.letters_put.result c.from-row.ensures c.step_name.ensures c.row_letters.ensures c.letters_put.ensures, r.1.1))

pub returns : goal.returns
returns c = λ d k f.
    c.tell.ensures d (deed_is d c.args.change k (row_listed c.args.page.now d f) c.step_name.result.now c.row_letters.result.now c.from-row.result c.letters_put.result c.from-row.ensures c.step_name.ensures c.row_letters.ensures c.letters_put.ensures)
