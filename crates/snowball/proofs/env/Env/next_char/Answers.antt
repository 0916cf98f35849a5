-- `Env::next_char` meets its contract. Assumes nothing.
use mathlib.Core.Path.{refl}
use native.Mathlib.Omega.{arith}
use Rattle.snowball.proofs.Standing.{next_stands}
use Rattle.snowball.proofs.env.Env.next_char.Goals as goal

pub returns : goal.returns
returns c =
    let x = c.args.self in
    (record { bra = refl; ket = refl; made = refl; changes = refl }, λ s st. next_stands x s st c.text.result.now c.text.ensures c.next_start.result (omega arith) c.next_start.ensures)
