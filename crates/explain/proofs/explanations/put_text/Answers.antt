-- `put_text` meets its contract: each arm knows what `tell` answered. Assumes nothing.
use native.Mathlib.Omega.{arith}
use Rattle.stemmer.specs.Entries.{checked}
use Rattle.explain.specs.Explained.{told}
use Rattle.explain.proofs.Putting.{done_line, refused_line}
use Rattle.explain.proofs.explanations.put_text.Goals as goal

pub returns-in-Ok-clause-out_after : goal.returns-in-Ok-clause-out_after
returns-in-Ok-clause-out_after c =
    let l = c.args.line.now in
    let t = c.tell.ensures in
    done_line (checked l) (told l) c.args.out.now c.tell.new.out c.tell.result t.value t.out_after c.in-Ok.count c.in-Ok.is (omega (arith, c.in-Ok.ensures.fits, c.requires))

pub returns-in-Err-clause-out_after : goal.returns-in-Err-clause-out_after
returns-in-Err-clause-out_after c =
    let l = c.args.line.now in
    let t = c.tell.ensures in
    rw (c.refuse.ensures.out_after, c.refuse.ensures.value) (refused_line (checked l) (told l) c.args.out.now c.tell.new.out c.tell.result t.value t.out_after c.in-Err.refusal c.in-Err.is)
