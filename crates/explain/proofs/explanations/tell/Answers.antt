-- `tell` meets its contract: text by text for an accepted word. Assumes nothing.
use mathlib.Core.Path.{refl, sym, ap, ◌∙◌}
use native.Mathlib.Omega.{arith}
use lib.ListN.{length}
use Rattle.std.specs.Prelude.{Result, Ok}
use Rattle.std.proofs.lemmas.Result.{err_from_is_err_and}
use Rattle.stemmer.specs.declared.outcome.BadWord.{BadWord}
use Rattle.stemmer.specs.Entries.{after_checks, out_after}
use Rattle.stemmer.proofs.Answers.{short}
use Rattle.explain.specs.Explained.{told}
use Rattle.explain.proofs.Putting.{all_told}
use Rattle.explain.proofs.explanations.tell.Goals as goal

pub returns-in_err-check_word-clause-out_after : goal.returns-in_err-check_word-clause-out_after
unfolding out_after
returns-in_err-check_word-clause-out_after c = rw (err_from_is_err_and c.from_residual.result c.from_residual.ensures.1).1 refl

pub put_word-told-requires : goal.put_word-told-requires
put_word-told-requires c = omega (arith, short c.args.word.now (sym c.in_ok-check_word.ensures), c.requires)

pub put_story-told-requires-clause-room : goal.put_story-told-requires-clause-room
put_story-told-requires-clause-room c =
    omega (arith, short c.args.word.now (sym c.in_ok-check_word.ensures), c.requires, c.put_word-told.ensures.value, c.put_word-told.auto.out)

pub put_stem-told-requires-clause-room : goal.put_stem-told-requires-clause-room
put_stem-told-requires-clause-room c =
    omega (arith, short c.args.word.now (sym c.in_ok-check_word.ensures), c.requires, c.put_word-told.ensures.value, c.put_word-told.auto.out, c.put_story-told.ensures.fits, c.put_story-told.auto.out)

pub returns : goal.returns
unfolding out_after
returns c =
    let w = c.args.word.now in
    let a = c.put_word-told.ensures in
    let b = c.put_story-told.ensures in
    let d = c.put_stem-told.ensures in
    let e = sym c.in_ok-check_word.ensures in
    let all = all_told w c.args.out.now c.put_word-told.new.out c.put_story-told.new.out c.put_stem-told.new.out _ _ _ a.value a.out_after b.value b.out_after d.value d.out_after in
    record {
      value = ap Ok all.0 ∙ sym (ap (λ (k : Result (Unit {0}) BadWord). after_checks k (Ok (length (told w)))) e);
      out_after = all.1;
      fits = omega (arith, short w e, a.value, b.fits, d.fits);
    }
