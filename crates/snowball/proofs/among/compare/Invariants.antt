-- `among::compare`: the invariant is that the bytes passed are the same.
use Prim.Native.Nat.{◌≤◌}
use Rattle.snowball.specs.Search.{lcp}
use Rattle.snowball.proofs.among.compare.Given as goal

abbrev pub invariant-loop-common : goal.invariant-loop-common
invariant-loop-common g l = l.common ≤ lcp (g.D.Direction.read l.row) (g.D.Direction.read l.text)
