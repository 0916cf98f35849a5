-- `Explanations::write` meets its contract: an empty line behind the text. Assumes nothing.
use native.Mathlib.Omega.{arith}
use Rattle.stemmer.specs.Entries.{checked}
use Rattle.lines.specs.Refusals.{text_after}
use Rattle.explain.specs.Explained.{told, explained}
use Rattle.explain.proofs.Putting.{empty_line}
use Rattle.explain.proofs.explanations.ExplanationsAnswer.write.Goals as goal

pub returns : goal.returns
unfolding explained
returns c =
    let l = c.args.line.now in
    let p = c.put_text-count.ensures in
    let d = empty_line (text_after (checked l) (told l)) c.args.out.now c.put_text-count.new.out c.put_text-count.result p.value p.out_after (omega (arith, p.fits, c.requires)) in
    record { value = d.0; out_after = d.1 }
