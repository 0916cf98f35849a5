-- Which bytes start a letter, and how many do. Assumes nothing.
use mathlib.Core.Path.{◌≡◌, refl}
use Prim.Native.Nat.{ℕ, ◌+◌, ◌≤◌, ◌<◌}
use mathlib.Core.Bool.{true}
use mathlib.Core.List.{List, [], ◌∷◌, ◌++◌}
use native.Mathlib.Omega.{arith}
use lib.Dec.{leb}
use borrow.Author.Tests.{lt-ltb, le-ltb}
use Rattle.utf8.specs.Places.{starts, leads}
use Rattle.definition.proofs.Match.{by}

pub leads-append : (x y : List ℕ) → leads (x ++ y) ≡ leads x + leads y
leads-append [] y = omega arith
leads-append (b ∷ x) y =
    by (starts b)
    (λ e. rw (e, leads-append x y) (omega arith))
    (λ e. rw (e, leads-append x y) refl)

pub starts-low : (b : ℕ) → b < 0x80 → true ≡ starts b
starts-low b h = rw (lt-ltb b 0x80 h) refl

pub starts_high : (b : ℕ) → 0x80 ≤ b → leb 0xC0 b ≡ starts b
starts_high b h = rw (le-ltb b 0x80 h) refl
