-- Lengths, and where a change of the last letter leaves the front alone. Assumes nothing.
use mathlib.Core.Path.{◌≡◌, refl, sym, ap, ◌∙◌}
use mathlib.Core.Bool.{Bool, true, false}
use mathlib.Core.List.{List, [], ◌∷◌, ◌++◌, head-eq_of_cons-eq, tail-eq_of_cons-eq}
use Prim.Native.Nat.{suc, ◌+◌, ◌≤◌, min}
use native.Mathlib.Omega.{arith}
use lib.ListN.{length, drop, set, length-append, length-set}
use lib.Seq.{drop-append_seam}
use Rattle.definition.specs.Letters.{alef}
use Rattle.definition.specs.Words.{Word, pick}
use Rattle.definition.specs.Tables.{A_4}
use Rattle.definition.specs.Search.{row_at}
use Rattle.definition.specs.Tries.{Try, done, failed}
use Rattle.definition.specs.Endings.{Cutting, suffix_all_alef_maqsura, maqsura_if_failed}
use Rattle.definition.specs.Finish.{finish}
use Rattle.definition.specs.Fronts.{Applied, prefix_step4_verb}
use Rattle.definition.specs.Demand3.{HeadOf, no_head, one_head, is_applied, place}
use Rattle.definition.proofs.Fronting.{fourth}

maqsura-length : (w : Word) → length (suffix_all_alef_maqsura w) ≡ length w
unfolding suffix_all_alef_maqsura
maqsura-length [] = refl
maqsura-length (c ∷ []) = refl
maqsura-length (c ∷ d ∷ w) = ap suc (maqsura-length (d ∷ w))

pub maqsura_if_length : (t : Try Cutting) (w : Word) → length (maqsura_if_failed t w) ≡ length w
unfolding maqsura_if_failed
maqsura_if_length (done v) w = refl
maqsura_if_length (failed v) w = maqsura-length w

pub finish-length : (w : Word) → length (finish w) ≡ length w
unfolding finish
finish-length [] = refl
finish-length (c ∷ []) = refl
finish-length (c ∷ d ∷ w) = ap suc (finish-length (d ∷ w))

pub fourth_length : (ms : List Applied) (w : Word) → length (fourth ms w) ≡ length w
unfolding fourth
fourth_length ms w = go (is_applied prefix_step4_verb ms)
  where
    go : (b : Bool) → length (pick b (set w (place ms) alef) w) ≡ length w
    go true = length-set w (place ms) alef
    go false = refl

pub head_short : (n front head_letter : Word) {ms : List Applied} → HeadOf n front head_letter ms → (length head_letter ≤ 1) × (length head_letter ≤ length front)
head_short n front head_letter (no_head e) = let z : length head_letter ≡ 0 = ap length e in (omega arith, omega arith)
head_short n front head_letter (one_head r i rest h l two f e) =
    let z : length head_letter ≡ 1 = ap length e in
    let lf : length front ≡ length (row_at A_4 r).letters + length rest = ap length f ∙ length-append (row_at A_4 r).letters rest in
    (omega arith, omega arith)

maqsura_split : (left front x : Word) → suffix_all_alef_maqsura left ≡ front ++ x → min 1 (length front) ≤ length x
    → (left ≡ front ++ drop (length front) left) × (x ≡ suffix_all_alef_maqsura (drop (length front) left))
unfolding suffix_all_alef_maqsura
maqsura_split left [] x e h = (refl, sym e)
maqsura_split [] (c ∷ front) x e h = let z : 0 ≡ suc (length (front ++ x)) = ap length e in absurd (omega arith)
maqsura_split (a ∷ []) (c ∷ front) x e h =
    let z : 1 ≡ suc (length (front ++ x)) = ap length e in let y : length (front ++ x) ≡ length front + length x = length-append front x in absurd (omega arith)
maqsura_split (a ∷ b ∷ l) (c ∷ front) x e h =
    let r = maqsura_split (b ∷ l) front x (tail-eq_of_cons-eq e) (omega arith) in
    let q : a ≡ c = head-eq_of_cons-eq e in
    ((λ i. q i ∷ r.0 i), r.1)

pub maqsura_if_split : (t : Try Cutting) (left front x : Word) → maqsura_if_failed t left ≡ front ++ x → min 1 (length front) ≤ length x
    → (left ≡ front ++ drop (length front) left) × (x ≡ maqsura_if_failed t (drop (length front) left))
unfolding maqsura_if_failed
maqsura_if_split (done v) left front x e h =
    let d : drop (length front) left ≡ x = ap (drop (length front)) e ∙ drop-append_seam front x in
    (e ∙ ap (λ (y : Word). front ++ y) (sym d), sym d)
maqsura_if_split (failed v) left front x e h = maqsura_split left front x e h
