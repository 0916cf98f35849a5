-- `own_places` meets its contract: each turn writes one place more. Assumes nothing.
use mathlib.Core.Path.{sym, ap, ◌∙◌}
use Prim.Native.Nat.{ℕ}
use native.Mathlib.Omega.{arith}
use lib.ListN.{get_or, set, length-set}
use Rattle.std.proofs.Common.{◌<◌, ◌≢◌, length, get_or-set_other, get_or-set_same, below_more}
use Rattle.snowball.proofs.env.own_places.Goals as goal

pub loop-place-preserved : goal.loop-place-preserved
loop-place-preserved c =
    let l = c.loop-place in
    let e = c.from.ensures in
    let lt : c.from.result < length l.places = omega (arith, l.invariant.0, c.loop-place-test.true) in (
      length-set l.places c.from.result l.place ∙ l.invariant.0,
      below_more _ _
          (λ k h. let ne : k ≢ c.from.result = omega arith in get_or-set_other l.places c.from.result k l.place 0 ne ∙ l.invariant.1 k h)
          (sym (ap (λ (k : ℕ). get_or (set l.places c.from.result l.place) k 0) e) ∙ get_or-set_same l.places c.from.result l.place 0 lt),
    )
