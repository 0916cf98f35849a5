-- The loop's invariant: the places so far are the bytes' own. Assumes nothing.
use mathlib.Core.Path.{◌≡◌}
use Prim.Native.Nat.{ℕ, ◌<◌}
use lib.ListN.{length, get_or}
use Rattle.snowball.specs.Stands.{work_size}
use Rattle.snowball.proofs.env.own_places.Given as goal

abbrev pub invariant-loop-place : goal.invariant-loop-place
invariant-loop-place l = (length l.places ≡ work_size) × ((k : ℕ) → k < l.place → get_or l.places k 0 ≡ k)
