-- `Env::slice_from` meets its contract. Assumes nothing.
use native.Mathlib.Omega.{arith}
use Rattle.snowball.proofs.Standing.{cursor-within}
use Rattle.snowball.proofs.Slicing.{sliced}
use Rattle.snowball.proofs.env.Env.slice_from.Goals as goal

pub replace_s-requires : goal.replace_s-requires
replace_s-requires c =
    let x = c.args.self in
    let p = c.requires in
    (p.0.1.within, cursor-within x p.0.0 p.0.1, p.1, p.2)

pub returns : goal.returns
returns c =
    let r = c.replace_s in (
      r.ensures.same,
      λ cs sc k. sliced c.args.self r.result c.args.s.now cs (omega (arith, c.requires.1)) r.ensures (omega (arith, r.ensures.limit, c.requires.0.1.within, c.requires.1, c.requires.2)) sc k,
    )
