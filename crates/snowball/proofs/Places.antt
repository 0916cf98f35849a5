-- Places between letters, their order, and the letters on both sides. Assumes nothing.
use mathlib.Core.Path.{◌≡◌, sym, ap, ◌∙◌, subst}
use Prim.Native.Nat.{ℕ, zero, suc, ◌≤◌, ◌<◌}
use mathlib.Core.Bool.{true}
use mathlib.Core.List.{List, ◌++◌}
use native.Mathlib.Omega.{arith}
use lib.ListN.{length, take, drop, get_or, take-append-drop}
use lib.Seq.{take_all, take-length}
use Rattle.utf8.specs.Utf8.{Scalars, encode}
use Rattle.utf8.specs.Places.{size, starts, At}
use Rattle.definition.proofs.Match.{by_le}
use Rattle.utf8.proofs.Text.{scalars-left, scalars_right}
use Rattle.utf8.proofs.Places.{size_up, size_strict, start_at}

module _ (cs : List ℕ) (n i : ℕ) (p : At cs n i) where
  -- a place lies within the bytes
  pub place-within : i ≤ size cs
  place-within = omega (arith, p.1, size_up cs n)

  -- a place lies before the end of the bytes just where it lies before the end of the letters
  pub place_inside : i < size cs → n < length cs
  place_inside h = by_le (length cs) n (λ g. absurd (omega (arith, p.1, ap size (take_all n cs g)))) (λ g. g)

  pub place_outside : n < length cs → i < size cs
  place_outside h = omega (arith, p.1, size_strict cs n (length cs) h (omega arith), ap size (take-length cs))

  -- places are in the order of their bytes
  pub place-order : (m j : ℕ) → At cs m j → i ≤ j → n ≤ m
  place-order m j q h = by_le n m (λ g. g) (λ g. absurd (omega (arith, p.1, q.1, size_strict cs m n g p.0)))

-- a place behind byte 0 is behind a letter
pub place_after : (cs : List ℕ) (n i : ℕ) → At cs n i → 0 < i → 0 < n
unfolding encode
place_after cs zero i p h = absurd (omega (arith, p.1))
place_after cs (suc n) i p h = omega arith

-- the first byte of a text starts a letter
pub first-starts : (text cs : List ℕ) (n at : ℕ) → text ≡ encode cs → At cs n at → 0 < at → starts (get_or text 0 0) ≡ true
unfolding encode
first-starts text cs n at e p h =
    let pos : 0 < length cs = omega (arith, place_after cs n at p h, p.0) in
    ap (λ (x : List ℕ). starts (get_or x 0 0)) e ∙ start_at cs 0 pos

module _ (cs : List ℕ) (n : ℕ) (s : Scalars cs) where
  both_sides : Scalars (take n cs ++ drop n cs)
  both_sides = subst Scalars (sym (take-append-drop n cs)) s

  pub scalars-take : Scalars (take n cs)
  scalars-take = scalars-left (take n cs) (drop n cs) both_sides

  pub scalars-drop : Scalars (drop n cs)
  scalars-drop = scalars_right (take n cs) (drop n cs) both_sides
