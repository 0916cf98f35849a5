-- `Among::row` meets its contract: a row has at most 6 bytes. Assumes nothing.
use mathlib.Core.Path.{ap}
use mathlib.Core.List.{[]}
use Prim.Native.Nat.{ℕ}
use native.Mathlib.Omega.{arith}
use lib.ListN.{take, get_or}
use Rattle.snowball.proofs.Searched.{most}
use Rattle.snowball.proofs.Answers.{row_spelt}
use Rattle.snowball.proofs.tables.Among.row.Goals as goal

pub shared_ref_as_front-result : goal.shared_ref_as_front-result
shared_ref_as_front-result g c = omega (arith, c.from.ensures, most c.args.self.now c.args.k c.requires)

pub returns-clause-letters : goal.returns-clause-letters
returns-clause-letters g c = λ t q p.
    let s = c.args.self.now in
    row_spelt s.rows.now s.classes.now s.lens.now c.args.k s.same_count.2 c.requires t q p _ (ap (λ (n : ℕ). take n (get_or s.rows.now c.args.k [])) c.from.ensures)
