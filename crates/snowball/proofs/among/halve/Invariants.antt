-- `among::halve`: the invariant is `Half`; the measure is twice the width of the range, and one more while the first key has not been inspected by itself.
use Prim.Native.Nat.{◌+◌, ◌-◌, ◌*◌}
use Rattle.snowball.specs.Rows.{keys_by}
use Rattle.snowball.proofs.Halving.{Half, left}
use Rattle.snowball.proofs.among.halve.Given as goal

abbrev pub invariant-loop-j : goal.invariant-loop-j
invariant-loop-j g l =
    Half (keys_by g.D.Direction.read l.table.rows.now l.table.lens.now) (g.D.Direction.read l.text) l.i l.j l.common_i l.common_j l.first_key_inspected

abbrev pub decreases-loop-j : goal.decreases-loop-j
decreases-loop-j g l = (l.j - l.i) * 2 + left l.first_key_inspected
