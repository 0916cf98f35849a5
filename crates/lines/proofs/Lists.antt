-- Facts on lists: a store behind a front, and parts that are lent and come back. Assumes nothing.
use mathlib.Core.Path.{◌≡◌, sym, ap, ◌∙◌}
use mathlib.Core.List.{List, [], ◌∷◌, ◌++◌, append_assoc, append-nil}
use Prim.Native.Nat.{ℕ, suc, ◌+◌, ◌-◌, ◌<◌, ◌≤◌}
use native.Mathlib.Numerals.{add-one}
use native.Mathlib.Omega.{arith}
use lib.ListN.{length, take, drop, set, get_or, length-drop, take-append-drop, drop_of_length-le}
use lib.Seq.{length-take-le, drop-cons, set_at, drop-append-le}
use borrow.Rule.Slice.PartMut.{put_mid}
use Rattle.std.proofs.lemmas.List.{take_rest}

-- a part's end, and what lies behind the part
pub rejoin : (n m : ℕ) (l : List ℕ) → n ≤ m → m ≤ length l → drop n (take m l) ++ drop m l ≡ drop n l
rejoin n m l h k =
    sym (drop-append-le n (take m l) (drop m l) (omega (arith, length-take-le m l k))) ∙ ap (drop n) (take-append-drop m l)

-- a byte stored behind w
pub ended : (w l : List ℕ) (n b : ℕ) → length w ≡ n → n < length l → set (w ++ drop n l) n b ≡ (w ++ b ∷ []) ++ drop (n + 1) l
ended w l n b e h =
    ap (λ (t : List ℕ). set (w ++ t) n b) (drop-cons l n 0 h)
    ∙ (set_at w (get_or l n 0) (drop (suc n) l) b n e ∙ rw (add-one, append_assoc))

-- how much `&l[at..]` shows of l
pub rest-length : (l : List ℕ) (at : ℕ) → length (take (length l - at) (drop at l)) ≡ length l - at
rest-length l at = ap length (take_rest l at) ∙ length-drop at l

-- the whole, once that part is back at ys
pub back_is : (l ys : List ℕ) (at : ℕ) → put_mid at (length l - at) l ys ≡ take at l ++ ys
back_is l ys at =
    let e : drop (length l - at) (drop at l) ≡ [] = drop_of_length-le (drop at l) {i = length l - at} (simp length-drop (omega arith)) in
    ap (λ (t : List ℕ). take at l ++ (ys ++ t)) e ∙ rw append-nil
