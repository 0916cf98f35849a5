-- `normalize::given` meets its contract: a class gives its letters. Assumes nothing.
use mathlib.Core.Path.{sym, ap, ◌∙◌, subst}
use Rattle.std.specs.Prelude.{Option, IfSome}
use Prim.Native.Nat.{ℕ, ◌<◌}
use Rattle.arabic.specs.Rows.{given_bytes}
use Rattle.arabic.proofs.Gives.{class_given}
use Rattle.arabic.proofs.normalize.given.Goals as goal

pub returns-in-Some : goal.returns-in-Some
returns-in-Some c =
    let a = c.args in
    c.class_gives.ensures ∙ sym (class_given c.in-Some.class (subst (λ (o : Option ℕ). IfSome o (λ k. k < 56)) c.in-Some.is c.requires)) ∙ ap (λ (o : Option ℕ). given_bytes o a.letter.now) (sym c.in-Some.is)
