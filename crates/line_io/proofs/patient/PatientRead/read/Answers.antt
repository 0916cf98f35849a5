-- The room that is lent stays the same from try to try.
use Rattle.std.proofs.Common.{rules, ◌≤◌, length}
use Rattle.std.proofs.lemmas.Result.{IfOk-weaker}
use Rattle.line_io.proofs.Tries.{bounded}
use Rattle.line_io.proofs.patient.PatientRead.read.Goals as goal

pub returns-clause-bound : goal.returns-clause-bound
returns-clause-bound g c =
    IfOk-weaker _ _ _ (λ n (h : n ≤ length c.args.buf.now). search rules)
    (bounded _ _ _ (λ state. length state.1.now) _ c.patiently.ensures (λ before answer left s. search rules) (λ last n h. search rules))
