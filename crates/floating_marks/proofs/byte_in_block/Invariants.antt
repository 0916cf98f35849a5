-- `byte_in_block` meets its contract: each turn looks at one byte more. Assumes nothing.
use Prim.Native.Nat.{◌+◌}
use Rattle.floating_marks.specs.Marked.{TellsByte}
use Rattle.floating_marks.proofs.byte_in_block.Given as goal

abbrev pub invariant-loop-k : goal.invariant-loop-k
invariant-loop-k l = TellsByte l.byte l.text l.from (l.from + l.k) l.found
