-- `Env::eq_s` meets its contract. Assumes nothing.
use mathlib.Core.Path.{sym, ◌∙◌}
use Rattle.snowball.proofs.Standing.{eq_found, eq_missed}
use Rattle.snowball.proofs.env.Env.eq_s.Goals as goal

pub returns-then-stands_at-clause-stands : goal.returns-then-stands_at-clause-stands
returns-then-stands_at-clause-stands c = λ s st cs sc k.
    eq_found c.args.self s st c.args.key.now cs sc k c.text.result.now c.text.ensures (sym c.stands_at.ensures ∙ c.if-stands_at.true)

pub returns-clause-stands : goal.returns-clause-stands
returns-clause-stands c = λ s st cs sc k.
    eq_missed c.args.self s st c.args.key.now cs sc k c.text.result.now c.text.ensures (sym c.stands_at.ensures ∙ c.if-stands_at.false)
