-- The tries so far kept what no call changes.
use Rattle.line_io.specs.Tries.{SameSizes}
use Rattle.line_io.proofs.patient.patiently.Given as goal

abbrev pub invariant-loop : goal.invariant-loop
invariant-loop g l = goal.F-IsAlwaysCallable g l.call × SameSizes (goal.F-step g) l.fn.call l.call
