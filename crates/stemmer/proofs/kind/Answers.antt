-- `kind` meets its contract: item 1 of an accepted word without its marks. Assumes nothing.
use mathlib.Core.Path.{sym, ap, ◌∙◌}
use Rattle.std.specs.Prelude.{Ok, Err}
use Rattle.std.proofs.lemmas.Result.{err_from_is_err_and}
use Rattle.definition.specs.Floating.{unmarked}
use Rattle.stemmer.specs.Entries.{letters}
use Rattle.stemmer.proofs.Answers.{kind-after}
use Rattle.stemmer.proofs.Without.{without_spelt}
use Rattle.stemmer.proofs.kind.Goals as goal

pub returns-in_err-check_word : goal.returns-in_err-check_word
returns-in_err-check_word c =
    let p = err_from_is_err_and c.from_residual.result c.from_residual.ensures.1 in
    p.1 ∙ ap Err p.2 ∙ kind-after c.args.word.now (Err c.in_err-check_word.field-0.0) (sym c.in_err-check_word.ensures)

pub returns : goal.returns
returns c =
    let w = c.args.word.now in
    let e = sym c.in_ok-check_word.ensures in
    ap Ok (c.kind_of.ensures (unmarked (letters w)) (without_spelt w e c.unmarked.result.now c.unmarked.ensures)).0 ∙ kind-after w (Ok tt) e
