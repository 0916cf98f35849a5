-- `tried::met` meets its contract. Assumes nothing.
use mathlib.Core.Path.{sym, ap, ◌∙◌}
use mathlib.Core.Bool.{not}
use Prim.Native.Nat.{ℕ}
use lib.Dec.{leb, eqb}
use lib.ListN.{length}
use Rattle.arabic.proofs.Guarded.{met_is, met_zero}
use Rattle.arabic.proofs.tried.met.Goals as goal

pub returns-then-class-ne0 : goal.returns-then-class-ne0
returns-then-class-ne0 c =
    let a = c.args in
    λ w e. c.has_chars.ensures.by_letters w e ∙ ap (λ (least : ℕ). leb least (length w)) c.least_letters.ensures ∙ sym (met_is a.guards.now a.class (length w) c.if-class-ne0.true)

pub returns-else-class-ne0 : goal.returns-else-class-ne0
returns-else-class-ne0 c = λ w e. ap (λ (n : ℕ). not (eqb n 0)) c.if-class-ne0.false ∙ sym (met_zero c.args.guards.now c.args.class (length w) c.if-class-ne0.false)
