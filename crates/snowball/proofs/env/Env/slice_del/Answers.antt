-- `Env::slice_del` meets its contract. Assumes nothing.
use mathlib.Core.Path.{refl, ◌∙◌}
use mathlib.Core.List.{[]}
use native.Mathlib.Omega.{arith}
use Rattle.utf8.specs.Utf8.{encode}
use Rattle.snowball.proofs.Standing.{cursor-within}
use Rattle.snowball.proofs.Slicing.{cut_tail}
use Rattle.snowball.proofs.Cut.{tail_least}
use Rattle.snowball.proofs.env.Env.slice_del.Goals as goal

pub returns-then-self : goal.returns-then-self
returns-then-self c =
    let x = c.args.self in
    let i = cursor-within x c.requires.0.0 c.requires.0.1 in (
      record { bra = refl; ket = refl; made = refl; changes = refl },
      cut_tail x c.min.result c.requires.1 (omega arith) c.requires.0.1.within (c.min.ensures ∙ tail_least x.bra x.limit (omega arith) x.cursor i),
    )

pub returns : goal.returns
unfolding encode
returns c =
    let r = c.slice_from.ensures in
    (r.0, r.1 [] tt refl)
