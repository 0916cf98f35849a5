-- A call that is made again until it is done.
use Rattle.std.specs.Prelude.{ℕ, ◌≡◌}

-- each size that no call changes is the same at the states call and last; step says which answer a call gives, and which state it leaves
abbrev pub SameSizes : {F R : Type 0} → (F → R → F → Type 0) → F → F → Type 0
SameSizes {F} {R} step call last = (size : F → ℕ) → ((before : F) (answer : R) (left : F) → step before answer left → size left ≡ size before) → size last ≡ size call
