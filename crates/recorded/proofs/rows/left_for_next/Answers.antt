-- `rows::left_for_next` meets its contract: what a step leaves stands for letters and a place in them, and has its changes. Assumes nothing.
use Rattle.definition.specs.Tries.{after}
use Rattle.arabic.specs.Fronts.{AtFront}
use Rattle.arabic.proofs.Nest.{left_after}
use Rattle.recorded.proofs.Left.{ready_again}
use Rattle.recorded.proofs.rows.left_for_next.Goals as goal

pub returns : goal.returns
returns c =
    let ps = c.requires.0 in
    let y = c.requires.1.0 in
    let st = left_after (AtFront ps) c.args.tried y c.left_by.result c.left_by.ensures c.requires.1.1 in
    ready_again ps (after y) c.left_by.result st
