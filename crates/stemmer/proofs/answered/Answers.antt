-- `answered` meets its contract: what it promises of each f that the work is. Assumes nothing.
use mathlib.Core.Path.{sym}
use Rattle.std.specs.Prelude.{Ok}
use Rattle.definition.specs.Words.{Word}
use Rattle.stemmer.specs.Entries.{Works}
use Rattle.stemmer.proofs.Answers.{refused, delivered}
use Rattle.stemmer.proofs.answered.Goals as goal

pub returns-in_err-check_word : goal.returns-in_err-check_word
returns-in_err-check_word g c =
    let e = c.in_err-check_word in
    let p = λ (f : Word → Word). refused f c.args.word.now c.args.out.now e.field-0.0 e.ensures c.from_residual.result c.from_residual.ensures.1 in
    record { value = λ f h. (p f).value; out_after = λ f h. (p f).out_after; out_len_bound = λ f h. (p f).out_len_bound }

pub returns : goal.returns
returns g c =
    let w = c.args.word in
    let e = c.in_ok-check_word.ensures in
    let t = c.text in
    let d = c.deliver in
    let p = λ (f : Word → Word) (h : Works (goal.F-pre g c.args.work) (goal.F-post g c.args.work) f). let g = h.gives w c.work.result (sym {a = Ok tt} e) c.work.ensures in
    delivered f w.now c.args.out.now e c.work.result g.0 g.1 t.result.now t.ensures d.result d.new.out d.ensures.value d.ensures.out_after in
    record { value = λ f h. (p f h).value; out_after = λ f h. (p f h).out_after; out_len_bound = λ f h. (p f h).out_len_bound }
