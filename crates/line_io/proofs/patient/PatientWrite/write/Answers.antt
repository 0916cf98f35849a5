-- The bytes that are offered stay the same from try to try.
use Rattle.std.proofs.Common.{rules, length}
use Rattle.line_io.proofs.Tries.{bounded}
use Rattle.line_io.proofs.patient.PatientWrite.write.Goals as goal

pub returns-clause-bound : goal.returns-clause-bound
returns-clause-bound g c = bounded _ _ _ (λ state. length state.1.now) _ c.patiently.ensures (λ before answer left s. search rules) (λ last n h. search rules)
