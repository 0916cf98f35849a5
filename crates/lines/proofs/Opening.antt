-- The opening mark: what `opened` gives, and which inputs `skip_mark` does not cut. Assumes nothing.
use mathlib.Core.Path.{◌≡◌, refl, ap, sym, ◌∙◌}
use mathlib.Core.Bool.{Bool, true, false, false≢true}
use mathlib.Core.List.{List, [], ◌∷◌, ◌++◌}
use Prim.Native.Nat.{ℕ, zero, suc, ◌<◌}
use native.Mathlib.Omega.{arith}
use lib.Dec.{eqb}
use lib.ListN.{length, take, get_or}
use lib.Pointwise.{pointwise, bytes_decides}
use lib.Seq.{get_or-take, get_or-append_seam}
use borrow.Author.Tests.{eq-eqb, ne_eqb, eqb-true}
use Rattle.definition.specs.Words.{pick, same, begins_with}
use Rattle.definition.proofs.Match.{by, same_eq, same_refl}
use Rattle.lines.specs.Plain.{line_feed, mark, skip_mark}
use Rattle.lines.specs.Machine.{opened}

-- an answer that goes both ways is `same`
same_is : (r : Bool) (a b : List ℕ) → (r ≡ true → a ≡ b) → (a ≡ b → r ≡ true) → same a b ≡ r
same_is true a b f g = rw (f refl) (same_refl b)
same_is false a b f g = by (same a b) (λ e. absurd (false≢true (g (same_eq a b e)))) (λ e. e)

pub opened-three : (f : Bool) (l : List ℕ) (r : Bool) → f ≡ true → length l ≡ 3 → same l mark ≡ r → opened f l ≡ (false, pick r [] l)
unfolding opened
opened-three f l r e h q = simp (e, eq-eqb (length l) 3 h, q)

pub opened_later : (f : Bool) (l : List ℕ) → f ≡ false → opened f l ≡ (f, l)
unfolding opened
opened_later f l e = simp e

pub opened-other : (f : Bool) (l : List ℕ) → (length l ≡ 3 → ⊥) → opened f l ≡ (f, l)
unfolding opened
opened-other true l h = simp (ne_eqb (length l) 3 h)
opened-other false l h = refl

-- the comparison of two slices is `same`
pub same_slice : (a b : List ℕ) → pointwise eqb a b ≡ same a b
same_slice a b = let d = bytes_decides a b in sym (same_is (pointwise eqb a b) a b d.0 d.1)

-- an input that does not open with the mark is not cut
pub uncut : (l : List ℕ) → (take 3 l ≡ mark → ⊥) → skip_mark l ≡ l
unfolding skip_mark begins_with
uncut l h = simp (same_is false (take 3 l) mark (λ e. absurd (false≢true e)) (λ e. absurd (h e)))

mark_no_lf : (k : ℕ) → k < 3 → get_or mark k 0 ≡ line_feed → ⊥
mark_no_lf zero h e = omega arith
mark_no_lf (suc zero) h e = omega arith
mark_no_lf (suc (suc zero)) h e = omega arith
mark_no_lf (suc (suc (suc k))) h e = omega arith

-- an LF among the first three bytes is not in the mark
pub lf_no_mark : (p bs : List ℕ) (b : ℕ) → length p < 3 → eqb b line_feed ≡ true → take 3 (p ++ b ∷ bs) ≡ mark → ⊥
lf_no_mark p bs b h e q =
    mark_no_lf (length p) h
    (ap (λ (l : List ℕ). get_or l (length p) 0) (sym q)
    ∙ (get_or-take 3 (p ++ b ∷ bs) (length p) 0 h ∙ (get_or-append_seam p b bs 0 ∙ eqb-true b line_feed e)))
