-- The loop's invariant: the count of the bytes so far that start a letter. Assumes nothing.
use mathlib.Core.Path.{◌≡◌}
use Prim.Native.Nat.{◌≤◌}
use lib.ListN.{take}
use Rattle.std.specs.List.{count_by}
use Rattle.utf8.specs.Places.{starts}
use Rattle.snowball.proofs.env.count_chars.Given as goal

abbrev pub invariant-loop-byte : goal.invariant-loop-byte
invariant-loop-byte l = (l.count ≡ count_by starts (take l.byte-index l.text)) × (l.count ≤ l.byte-index)
