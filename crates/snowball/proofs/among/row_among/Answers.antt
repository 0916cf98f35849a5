-- `among::row_among` meets its contract: the halving and the walk find the longest row. Assumes nothing.
use native.Mathlib.Omega.{arith}
use Rattle.snowball.specs.Search.{hit}
use Rattle.snowball.proofs.Searched.{count, row_is}
use Rattle.snowball.proofs.among.row_among.Goals as goal

pub bounds-table-place : goal.bounds-table-place
bounds-table-place g c = omega (arith, c.halve-place.ensures.in_table, count c.args.table.now)

pub returns-then-from-place : goal.returns-then-from-place
returns-then-from-place g c =
    row_is c.args.table.now g.met.D.Direction.same_length c.args.text.now c.halve-place.ensures (hit (omega (arith, c.from.ensures, c.if-from-place.true)))

pub returns : goal.returns
returns g c = row_is c.args.table.now g.met.D.Direction.same_length c.args.text.now c.halve-place.ensures c.walk.ensures
