-- Where a replacement moves a place, case by case, and a cut at the end of the text. Assumes nothing.
use mathlib.Core.Path.{◌≡◌, refl, sym, ap, ◌∙◌}
use Prim.Native.Nat.{ℕ, ◌+◌, ◌-◌, ◌≤◌, ◌<◌, min}
use mathlib.Core.List.{List, [], ◌++◌, append-nil}
use native.Mathlib.Omega.{arith}
use lib.ListN.{take}
use lib.Seq.{take-take, slice_empty}
use borrow.Author.Tests.{lt-ltb, le-ltb, le-leb, lt-leb}
use Rattle.definition.proofs.Match.{by_le}
use Rattle.snowball.specs.Cut.{replaced, moved}

module _ (place bra ket n : ℕ) where
  pub moved-behind : ket ≤ place → place - (ket - bra) + n ≡ moved place bra ket n
  moved-behind h = rw (le-leb ket place h) refl

  pub moved_inside : place < ket → bra < place → bra ≡ moved place bra ket n
  moved_inside h g = rw (lt-leb ket place h, lt-ltb bra place g) refl

  pub moved_before : place < ket → place ≤ bra → place ≡ moved place bra ket n
  moved_before h g = rw (lt-leb ket place h, le-ltb bra place g) refl

  -- the two together
  pub moved_least : place < ket → min place bra ≡ moved place bra ket n
  moved_least h = by_le place bra (λ g. let e : min place bra ≡ place = omega arith in e ∙ moved_before h g) (λ g. let e : min place bra ≡ bra = omega arith in e ∙ moved_inside h g)

-- ---- a cut at the end of the text
module _ (bra limit : ℕ) (h : bra ≤ limit) where
  pub tail_bytes : (cur : List ℕ) → take bra cur ≡ replaced (take limit cur) bra limit []
  tail_bytes cur =
      sym (
      ap (λ (x : List ℕ). take bra (take limit cur) ++ [] ++ x) (slice_empty limit cur)
      ∙ append-nil (take bra (take limit cur) ++ [])
      ∙ append-nil (take bra (take limit cur))
      ∙ take-take bra limit cur h)

  pub tail_least : (place : ℕ) → place ≤ limit → min place bra ≡ moved place bra limit 0
  tail_least place l =
      by_le limit place
      (λ k. let e : min place bra ≡ place - (limit - bra) + 0 = omega arith in e ∙ moved-behind place bra limit 0 k)
      (λ k. moved_least place bra limit 0 k)
