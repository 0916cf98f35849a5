-- The last letter of a text, and the letters before it. Assumes nothing.
use mathlib.Core.Path.{◌≡◌, refl, sym, ap, ◌∙◌, subst}
use mathlib.Core.Bool.{true}
use mathlib.Core.List.{List, [], ◌∷◌}
use Prim.Native.Nat.{ℕ, suc, ◌-◌, ◌≤◌, ◌<◌}
use native.Mathlib.Omega.{arith}
use lib.ListN.{length, take, drop, get_or}
use lib.Seq.{take-length, take_all}
use Rattle.definition.specs.Words.{Word}
use Rattle.utf8.specs.Utf8.{Scalars, encode}
use Rattle.utf8.specs.Places.{starts, size, At, LastStart}
use Rattle.utf8.specs.Spelt.{Encodes}
use Rattle.utf8.proofs.Ahead.{cons_size}
use Rattle.utf8.proofs.Places.{drop-size, take-size, last-place}
use Rattle.utf8.proofs.Text.{encode1_pos}
use Rattle.snowball.proofs.Places.{place-within, place_after, first-starts, scalars-take, scalars-drop}
use Rattle.history.specs.History.{last_of, but_last}

-- by the number of letters
but_last_is : (w : Word) → but_last w ≡ take (length w - 1) w
unfolding but_last
but_last_is [] = refl
but_last_is (c ∷ []) = refl
but_last_is (c ∷ d ∷ w) =
    let e : suc (length (d ∷ w) - 1) ≡ length (c ∷ d ∷ w) - 1 = omega arith in
    ap (λ (x : Word). c ∷ x) (but_last_is (d ∷ w)) ∙ ap (λ (n : ℕ). take n (c ∷ d ∷ w)) e

pub last_of_is : (w : Word) → last_of w ≡ drop (length w - 1) w
unfolding last_of
last_of_is [] = refl
last_of_is (c ∷ []) = refl
last_of_is (c ∷ d ∷ w) =
    let e : suc (length (d ∷ w) - 1) ≡ length (c ∷ d ∷ w) - 1 = omega arith in
    last_of_is (d ∷ w) ∙ ap (λ (n : ℕ). drop n (c ∷ d ∷ w)) e

-- where the last letter begins at the byte r
pub halves : (text : List ℕ) (w : Word) (r : ℕ) → Encodes text w → At w (length w - 1) r → Encodes (take r text) (but_last w) × Encodes (drop r text) (last_of w)
halves text w r e p =
    let n : ℕ = length w - 1 in (
      (subst Scalars (sym (but_last_is w)) (scalars-take w n e.0), (λ i. take (p.1 i) (e.1 i)) ∙ take-size w n ∙ ap encode (sym (but_last_is w))),
      (subst Scalars (sym (last_of_is w)) (scalars-drop w n e.0), (λ i. drop (p.1 i) (e.1 i)) ∙ drop-size w n ∙ ap encode (sym (last_of_is w))),
    )

pub inside : (text : List ℕ) (w : Word) (r : ℕ) → Encodes text w → At w (length w - 1) r → r ≤ length text
inside text w r e p = omega (arith, place-within w (length w - 1) r p, ap length e.1)

-- in a text with no byte
pub no_letter : (text : List ℕ) (w : Word) → Encodes text w → length text ≡ 0 → At w (length w - 1) 0
unfolding encode
no_letter text [] e l = (omega arith, refl)
no_letter text (c ∷ w) e l = absurd (omega (arith, l, ap length e.1, cons_size c w, encode1_pos c))

-- and in any other
module _ (text : List ℕ) (w : Word) (e : Encodes text w) (h : 0 < length text) where
  end : At w (length w) (length text)
  end = (omega arith, ap length e.1 ∙ ap size (sym (take-length w)))

  letters : 0 < length w
  letters = place_after w (length w) (length text) end h

  pub starts_first : starts (get_or text 0 0) ≡ true
  starts_first = first-starts text w (length w) (length text) e.1 end h

  pub last_at : (r : ℕ) → LastStart text (length text) r → At w (length w - 1) r
  last_at r f = last-place text w (length text) (take_all (length text) text (omega arith) ∙ e.1) (ap length e.1) (length text) r (length w) f end letters
