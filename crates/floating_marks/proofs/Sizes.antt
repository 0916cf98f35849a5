-- A word without its marks in bytes. Assumes nothing.
use mathlib.Core.Bool.{Bool, true, false}
use mathlib.Core.List.{[], ◌∷◌}
use Prim.Native.Nat.{ℕ, ◌≤◌}
use native.Mathlib.Omega.{arith}
use lib.ListN.{length}
use Rattle.definition.specs.Words.{Word, pick}
use Rattle.definition.specs.Floating.{floating, unmarked}
use Rattle.utf8.specs.Utf8.{Scalar, Scalars, encode}
use Rattle.utf8.proofs.Ahead.{cons_size}

kept-scalars : (c : ℕ) (w : Word) (b : Bool) → Scalar c → Scalars w → Scalars (pick b w (c ∷ w))
kept-scalars c w true s t = t
kept-scalars c w false s t = (s, t)

-- it is a text
pub unmarked-scalars : (w : Word) → Scalars w → Scalars (unmarked w)
unfolding unmarked
unmarked-scalars [] s = tt
unmarked-scalars (c ∷ w) s = kept-scalars c (unmarked w) (floating c) s.0 (unmarked-scalars w s.1)

kept-size : (c : ℕ) (u w : Word) (b : Bool) → length (encode u) ≤ length (encode w) → length (encode (pick b u (c ∷ u))) ≤ length (encode (c ∷ w))
kept-size c u w true h = omega (arith, cons_size c w)
kept-size c u w false h = omega (arith, cons_size c u, cons_size c w)

-- and no longer
pub unmarked-size : (w : Word) → length (encode (unmarked w)) ≤ length (encode w)
unfolding unmarked
unmarked-size [] = omega arith
unmarked-size (c ∷ w) = kept-size c (unmarked w) w (floating c) (unmarked-size w)
