-- `among::find` meets its contract: class and length are those of the row that was found. Assumes nothing.
use mathlib.Core.Path.{◌∙◌}
use native.Mathlib.Omega.{arith}
use Rattle.snowball.proofs.Searched.{no_row, a_row, in_rows, in_text}
use Rattle.snowball.proofs.among.find.Goals as goal

pub returns-then-row-table-clause-longest_row : goal.returns-then-row-table-clause-longest_row
returns-then-row-table-clause-longest_row g c =
    no_row c.args.table.now g.met.D.Direction.same_length c.args.text.now _ c.row_among-row.ensures c.if-row-table.true

pub bounds-table-row : goal.bounds-table-row
bounds-table-row g c =
    omega (arith, in_rows c.args.table.now g.met.D.Direction.same_length c.args.text.now _ c.row_among-row.ensures c.if-row-table.false)

pub bounds-table-row-2 : goal.bounds-table-row-2
bounds-table-row-2 g c =
    omega (arith, in_rows c.args.table.now g.met.D.Direction.same_length c.args.text.now _ c.row_among-row.ensures c.if-row-table.false)

pub returns : goal.returns
returns g c =
    let a = a_row c.args.table.now g.met.D.Direction.same_length c.args.text.now _ c.row_among-row.ensures c.if-row-table.false in
    record {
      within = omega (arith, c.from.ensures, in_text c.args.table.now g.met.D.Direction.same_length c.args.text.now _ c.row_among-row.ensures c.if-row-table.false);
      longest_row = record { row = a.row; class = a.class; len = c.from.ensures ∙ a.len };
    }
