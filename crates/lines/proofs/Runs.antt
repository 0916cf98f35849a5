-- Runs of bytes: in two pieces, one byte longer; and how many bytes are taken. Assumes nothing.
use mathlib.Core.Path.{◌≡◌, refl, ap, ◌∙◌}
use mathlib.Core.List.{List, [], ◌∷◌, ◌++◌, append_assoc, append-nil}
use Prim.Native.Nat.{ℕ, suc, ◌-◌, ◌≤◌, ◌<◌}
use native.Mathlib.Omega.{arith}
use lib.ListN.{length, take, drop, take-append-drop}
use borrow.Author.Tests.{le-leb, lt-leb, eq-eqb, ne_eqb}
use Rattle.definition.proofs.Match.{by_le}
use Rattle.lines.specs.Machine.{Reading, step, said, after, written, last_line, taken}
use Rattle.std.proofs.lemmas.List.{take_rest}

pub after-append : (s : Reading) (xs ys : List ℕ) → after s (xs ++ ys) ≡ after (after s xs) ys
unfolding after
after-append s [] ys = refl
after-append s (x ∷ xs) ys = after-append (step s x) xs ys

pub after_one : (s : Reading) (xs : List ℕ) (b : ℕ) → after s (xs ++ b ∷ []) ≡ step (after s xs) b
unfolding after
after_one s xs b = after-append s xs (b ∷ [])

-- the rest of the input, as `&input[used..]` shows it
pub after_rest : (s : Reading) (input : List ℕ) (used : ℕ) → after (after s (take used input)) (take (length input - used) (drop used input)) ≡ after s input
after_rest s input used = rw (take_rest, ← after-append, take-append-drop)

module _ (answer : List ℕ → List ℕ) where
  pub written-append : (s : Reading) (xs ys : List ℕ) → written answer s (xs ++ ys) ≡ written answer s xs ++ written answer (after s xs) ys
  unfolding after written
  written-append s [] ys = refl
  written-append s (x ∷ xs) ys = rw (written-append (step s x) xs ys, append_assoc)

  pub written_one : (s : Reading) (xs : List ℕ) (b : ℕ) → written answer s (xs ++ b ∷ []) ≡ written answer s xs ++ said answer (after s xs) b
  unfolding written
  written_one s xs b = written-append s xs (b ∷ []) ∙ ap (λ (t : List ℕ). written answer s xs ++ t) (append-nil (said answer (after s xs) b))

  -- the last line
  pub last_none : (s : Reading) → length s.1 ≡ 0 → last_line answer s ≡ []
  unfolding last_line
  last_none s h = simp (eq-eqb (length s.1) 0 h)

  pub last_some : (s : Reading) → (length s.1 ≡ 0 → ⊥) → last_line answer s ≡ answer s.1
  unfolding last_line
  last_some s h = simp (ne_eqb (length s.1) 0 h)

module _ (answer : List ℕ → List ℕ) (room : ℕ) where
  -- a byte is taken where there is room for any answer, and none where there is not
  pub taken_more : (left : ℕ) (s : Reading) (b : ℕ) (bs : List ℕ) → room ≤ left
      → taken answer room left s (b ∷ bs) ≡ suc (taken answer room (left - length (said answer s b)) (step s b) bs)
  unfolding taken
  taken_more left s b bs h = simp (le-leb room left h)

  pub taken_none : (left : ℕ) (s : Reading) (bs : List ℕ) → left < room → taken answer room left s bs ≡ 0
  unfolding taken
  taken_none left s [] h = refl
  taken_none left s (b ∷ bs) h = simp (lt-leb room left h)

  pub taken_some : (left : ℕ) (s : Reading) (bs : List ℕ) → room ≤ left → 1 ≤ length bs → 1 ≤ taken answer room left s bs
  taken_some left s [] h k = absurd (omega arith)
  taken_some left s (b ∷ bs) h k = rw (taken_more left s b bs h) (omega arith)

  pub taken-end : (left : ℕ) (s : Reading) (bs : List ℕ) → length bs ≡ 0 → taken answer room left s bs ≡ 0
  unfolding taken
  taken-end left s [] h = refl
  taken-end left s (b ∷ bs) h = absurd (omega arith)

  pub taken-within : (left : ℕ) (s : Reading) (bs : List ℕ) → taken answer room left s bs ≤ length bs
  taken-within left s [] = omega (arith, taken-end left s [] refl)
  taken-within left s (b ∷ bs) = by_le room left
      (λ h. omega (arith, taken_more left s b bs h, taken-within (left - length (said answer s b)) (step s b) bs))
      (λ h. omega (arith, taken_none left s (b ∷ bs) h))
