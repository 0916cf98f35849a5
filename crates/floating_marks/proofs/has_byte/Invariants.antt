-- `has_byte` meets its contract: no byte in front of i is the one that is looked for, and the last block reaches to the end. Assumes nothing.
use mathlib.Core.Bool.{false}
use Prim.Native.Nat.{◌-◌}
use Rattle.floating_marks.specs.Marked.{TellsByte}
use Rattle.floating_marks.proofs.has_byte.Given as goal

abbrev pub invariant-loop-i : goal.invariant-loop-i
invariant-loop-i l = TellsByte l.byte l.word 0 l.i false

abbrev pub decreases-loop-i : goal.decreases-loop-i
decreases-loop-i l = l.last - l.i
