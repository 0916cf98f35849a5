-- `letters_put` meets its contract: what its arms answer passes one test over all rows. Assumes nothing.
use mathlib.Core.Path.{sym, ◌∙◌}
use native.Mathlib.Omega.{arith}
use Rattle.story.proofs.NotedRows.{put_is, put_none, put_10, put_13, put_14, put_15}
use Rattle.story.proofs.changes.letters_put.Goals as goal

pub returns-in-10 : goal.returns-in-10
returns-in-10 c = let a = c.args in sym (put_10 a.step a.row c.in-10.is) ∙ put_is a.step a.row c.requires

pub returns-in-13 : goal.returns-in-13
returns-in-13 c = let a = c.args in c.min.ensures ∙ sym (put_13 a.step a.row c.in-13.is) ∙ put_is a.step a.row c.requires

pub returns-in-14 : goal.returns-in-14
returns-in-14 c = let a = c.args in sym (put_14 a.step a.row c.in-14.is) ∙ put_is a.step a.row c.requires

pub returns-in-15 : goal.returns-in-15
returns-in-15 c = let a = c.args in sym (put_15 a.step a.row c.in-15.is) ∙ put_is a.step a.row c.requires

pub returns-in_default : goal.returns-in_default
returns-in_default c =
    let a = c.args in
    sym (put_none a.step a.row (λ e. omega (arith, e, c.in_default)) (λ e. omega (arith, e, c.in_default)) (λ e. omega (arith, e, c.in_default)) (λ e. omega (arith, e, c.in_default))) ∙ put_is a.step a.row c.requires
