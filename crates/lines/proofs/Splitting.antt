-- How an input is split into lines: a line is what stands before the first LF. Assumes nothing.
use mathlib.Core.Path.{◌≡◌, ap, ◌∙◌}
use mathlib.Core.Bool.{true, false}
use mathlib.Core.List.{List, [], ◌∷◌, ◌++◌}
use Prim.Native.Nat.{ℕ}
use lib.Dec.{eqb}
use borrow.Author.Tests.{ne_eqb}
use Rattle.lines.specs.Plain.{line_feed, onto, lines_of}
use Rattle.lines.specs.Facts.{Without}

-- no byte of the list is LF, by the test
abbrev pub NoLf : List ℕ → Type 0
NoLf [] = Unit {0}
NoLf (x ∷ xs) = (eqb x line_feed ≡ false) × NoLf xs

pub no_lf : (w : List ℕ) → Without line_feed w → NoLf w
no_lf [] h = tt
no_lf (x ∷ xs) h = (ne_eqb x line_feed h.0, no_lf xs h.1)

pub no_lf_behind : (p : List ℕ) (b : ℕ) → NoLf p → eqb b line_feed ≡ false → NoLf (p ++ b ∷ [])
no_lf_behind [] b h e = (e, tt)
no_lf_behind (x ∷ xs) b h e = (h.0, no_lf_behind xs b h.1 e)

lines_lf : (b : ℕ) (bs : List ℕ) → eqb b line_feed ≡ true → lines_of (b ∷ bs) ≡ [] ∷ lines_of bs
unfolding lines_of
lines_lf b bs e = simp e

lines_no : (b : ℕ) (bs : List ℕ) → eqb b line_feed ≡ false → lines_of (b ∷ bs) ≡ onto b (lines_of bs)
unfolding lines_of
lines_no b bs e = simp e

-- a line that LF ends
pub line_first : (w : List ℕ) (b : ℕ) (bs : List ℕ) → NoLf w → eqb b line_feed ≡ true → lines_of (w ++ b ∷ bs) ≡ w ∷ lines_of bs
unfolding onto
line_first [] b bs n e = lines_lf b bs e
line_first (x ∷ xs) b bs n e = lines_no x (xs ++ b ∷ bs) n.0 ∙ ap (onto x) (line_first xs b bs n.1 e)

-- a last line with no LF
pub line_last : (x : ℕ) (xs : List ℕ) → NoLf (x ∷ xs) → lines_of (x ∷ xs) ≡ (x ∷ xs) ∷ []
unfolding onto lines_of
line_last x [] n = simp n.0
line_last x (y ∷ ys) n = lines_no x (y ∷ ys) n.0 ∙ ap (onto x) (line_last y ys n.1)
