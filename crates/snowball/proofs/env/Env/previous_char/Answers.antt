-- `Env::previous_char` meets its contract. Assumes nothing.
use mathlib.Core.Path.{refl}
use native.Mathlib.Omega.{arith}
use Rattle.snowball.proofs.Standing.{cursor-within, text-length, first-start, previous_stands}
use Rattle.snowball.proofs.env.Env.previous_char.Goals as goal

pub last_start-requires : goal.last_start-requires
last_start-requires c =
    let x = c.args.self in
    let p = c.requires in
    let t = c.text in (
      omega (arith, cursor-within x p.0.0 p.0.1, text-length x p.0.0 p.0.1 t.result.now t.ensures),
      p.1,
      first-start x p.0.0 p.0.1 t.result.now t.ensures p.1,
    )

pub returns : goal.returns
returns c =
    let x = c.args.self in
    (record { bra = refl; ket = refl; made = refl; changes = refl }, λ s st. previous_stands x s st c.text.result.now c.text.ensures c.requires.1 c.last_start.result c.last_start.ensures)
