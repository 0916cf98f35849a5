-- The walk meets its contract. Assumes nothing.
use mathlib.Core.Path.{◌≡◌, subst}
use Prim.Native.Nat.{ℕ, ◌<◌}
use native.Mathlib.Omega.{arith}
use Rattle.std.proofs.Common.{rules}
use Rattle.snowball.specs.Search.{Walked, hit, out, on}
use Rattle.snowball.proofs.Searched.{smaller}
use Rattle.snowball.proofs.among.+walk.Goals as goal

pub returns-then-from-common : goal.returns-then-from-common
returns-then-from-common g t c = hit (omega (arith, c.from.ensures, c.if-from-common.true))

pub returns-in-None : goal.returns-in-None
returns-in-None g t c =
    subst (λ (n : ℕ). Walked c.args.table.now.lens.now c.args.table.now.links.now c.args.common c.args.row n) (omega arith)
    (out {i = c.args.row} (omega (arith, c.from.ensures, c.if-from-common.false)) c.in-None.is)

pub walk-requires : goal.walk-requires
walk-requires g t c κs within =
    let d : c.args.row ≡ t = c.decreases in
    let h : c.in-Some.link < c.args.row = smaller c.args.table.now c.args.row c.in-Some.link c.requires c.in-Some.is in
    search rules

pub returns-in-Some : goal.returns-in-Some
returns-in-Some g t c =
    on (omega (arith, c.from.ensures, c.if-from-common.false)) c.in-Some.is
    (subst (λ (n : ℕ). Walked c.args.table.now.lens.now c.args.table.now.links.now c.args.common n c.walk.result) c.from-in-Some.ensures c.walk.ensures)
