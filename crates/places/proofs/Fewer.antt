-- A stem has no more letters than the typed word has bytes. Assumes nothing.
use mathlib.Core.Path.{◌≡◌, refl, ap, ◌∙◌}
use mathlib.Core.Bool.{Bool, true}
use mathlib.Core.Logic.{inl, inr}
use mathlib.Core.List.{[], ◌∷◌, ◌++◌}
use Prim.Native.Nat.{ℕ, zero, suc, ◌≤◌}
use native.Mathlib.Omega.{arith}
use lib.Dec.{eqb, leb}
use lib.ListN.{length, drop, get_or, length-append, get_or-append}
use borrow.Author.Tests.{eqb-true, leb-true}
use Rattle.definition.specs.Words.{Word, both, every, begins_with}
use Rattle.definition.specs.Tables.{Row, A_0}
use Rattle.definition.specs.Search.{row_at, longest}
use Rattle.definition.specs.Normal.{gives, listed_for, given, normal, normalise}
use Rattle.definition.specs.Stem.{stem}
use Rattle.definition.specs.Floating.{floating, unmarked, without_marks}
use Rattle.definition.proofs.Match.{both_0, both_1, by, begins_split}
use Rattle.definition.proofs.Found.{Found, all_at, longest-found, row-behind}
use Rattle.definition.proofs.Main.{main_demand3}
use Rattle.utf8.specs.Utf8.{encode1, encode}
use Rattle.utf8.proofs.Text.{encode1_pos}

-- each row of A_0 has one letter and a class, which gives no more letters than that letter has bytes
abbrev few : Row → Bool
few k = both (eqb (length k.letters) 1) (both (leb 1 k.class) (leb (length (given 0 k.class)) (length (encode1 (get_or k.letters 0 0)))))

rows_few : every few A_0 ≡ true
unfolding A_0 gives listed_for given encode1
rows_few = refl

given_any : (c k : ℕ) → 1 ≤ k → given c k ≡ given 0 k
unfolding given
given_any c zero h = absurd (omega arith)
given_any c (suc k) h = refl

none_given : (c : ℕ) → length (given c 0) ≡ 1
unfolding given
none_given c = refl

normal-fewer : (c : ℕ) → length (normal c) ≤ length (encode1 c)
unfolding normal
normal-fewer c = go (longest-found (begins_with (c ∷ [])) A_0)
  where
    r : ℕ
    r = longest (begins_with (c ∷ [])) A_0

    go : Found (begins_with (c ∷ [])) A_0 r → length (given c (row_at A_0 r).class) ≤ length (encode1 c)
    go (inl h) =
        let k : ℕ = (row_at A_0 r).class in
        let w : Word = (row_at A_0 r).letters in
        let e : few (row_at A_0 r) ≡ true = all_at few A_0 rows_few r h.0 in
        let e1 = both_1 (eqb (length w) 1) _ e in
        let one : length w ≡ 1 = eqb-true (length w) 1 (both_0 _ _ e) in
        let split : c ∷ [] ≡ w ++ drop (length w) (c ∷ []) = begins_split (c ∷ []) w h.1 in
        let same : c ≡ get_or w 0 0 = ap (λ (x : Word). get_or x 0 0) split ∙ get_or-append w (drop (length w) (c ∷ [])) 0 0 (omega arith) in
        let l : length (given 0 k) ≤ length (encode1 (get_or w 0 0)) = leb-true (length (given 0 k)) (length (encode1 (get_or w 0 0))) (both_1 (leb 1 k) _ e1) in
        let g : length (given c k) ≡ length (given 0 k) = ap length (given_any c k (leb-true 1 k (both_0 _ _ e1))) in
        let s : length (encode1 c) ≡ length (encode1 (get_or w 0 0)) = ap (λ (x : ℕ). length (encode1 x)) same in
        omega arith
    go (inr h) =
        let z : (row_at A_0 r).class ≡ 0 = ap (λ (i : ℕ). (row_at A_0 i).class) h ∙ row-behind A_0 in
        let g : length (given c (row_at A_0 r).class) ≡ 1 = ap (λ (k : ℕ). length (given c k)) z ∙ none_given c in
        omega (arith, encode1_pos c)

normalise-fewer : (w : Word) → length (normalise w) ≤ length (encode w)
unfolding normalise encode
normalise-fewer [] = omega arith
normalise-fewer (c ∷ w) = omega (arith, length-append (normal c) (normalise w), length-append (encode1 c) (encode w), normal-fewer c, normalise-fewer w)

-- nor has a word more bytes without its floating marks
unmarked-fewer : (w : Word) → length (encode (unmarked w)) ≤ length (encode w)
unfolding unmarked encode
unmarked-fewer [] = omega arith
unmarked-fewer (c ∷ w) =
    let a = length-append (encode1 c) (encode w) in
    let b = length-append (encode1 c) (encode (unmarked w)) in
    let m = unmarked-fewer w in
    by (floating c) (λ e. rw e (omega arith)) (λ e. rw e (omega arith))

pub stem-fewer : (w : Word) → length (without_marks stem w) ≤ length (encode w)
stem-fewer w = omega (arith, (main_demand3 (unmarked w)).most, normalise-fewer (unmarked w), unmarked-fewer w)
