-- The last letter 0649: the search that finds it, and what replaces it. Assumes nothing.
use mathlib.Core.Path.{◌≡◌, refl, sym, ap, ◌∙◌, subst}
use mathlib.Core.Bool.{Bool, true}
use mathlib.Core.List.{List, [], ◌∷◌, ◌++◌, append-nil}
use Prim.Native.Nat.{ℕ, ◌+◌, ◌-◌, ◌≤◌}
use native.Mathlib.Omega.{arith}
use lib.ListN.{length, take, drop, length-append, take-append-drop}
use lib.Seq.{length-take-le, take-length, drop-length, drop_at}
use Rattle.definition.specs.Letters.{alef_maksura, yeh}
use Rattle.definition.specs.Words.{Word, pick, ends_with}
use Rattle.definition.specs.Tables.{A_21}
use Rattle.definition.specs.Search.{row_at, longer, longest}
use Rattle.definition.specs.Endings.{suffix_all_alef_maqsura}
use Rattle.definition.proofs.Match.{by, ends_split}
use Rattle.definition.proofs.Stays.{maqsura-stays}
use Rattle.utf8.specs.Utf8.{encode, encode1}
use Rattle.utf8.specs.Places.{size, At}
use Rattle.utf8.proofs.Places.{size-append}
use Rattle.snowball.specs.declared.env.Env.{Env}
use Rattle.snowball.specs.declared.among.Found.{Found}
use Rattle.snowball.specs.Search.{Behind}
use Rattle.utf8.specs.Beside.{widths}
use Rattle.snowball.specs.Cut.{replaced, moved}
use Rattle.snowball.specs.Chars.{Chars, AsWide, slice_from}
use Rattle.snowball.specs.Stands.{Stands}
use Rattle.snowball.proofs.Cut.{moved-behind}
use Rattle.arabic.specs.Endings.{at_end}

abbrev last : Word
last = alef_maksura ∷ []

-- ---- on letters
maqsura_at : (a : Word) → suffix_all_alef_maqsura (a ++ last) ≡ a ++ (yeh ∷ [])
unfolding suffix_all_alef_maqsura
maqsura_at [] = refl
maqsura_at (c ∷ []) = refl
maqsura_at (c ∷ d ∷ a) = ap (λ (w : Word). c ∷ w) (maqsura_at (d ∷ a))

-- ---- the search
class_is : (w : Word) → (row_at A_21 (longest (ends_with w) A_21)).class ≡ pick (ends_with w last) 1 0
unfolding A_21 longest longer
class_is w = by (ends_with w last) (λ e. rw e refl) (λ e. rw e refl)

letters_are : (w : Word) → ends_with w last ≡ true → (row_at A_21 (longest (ends_with w) A_21)).letters ≡ last
unfolding A_21 longest longer
letters_are w e = rw e refl

module _ (x : Env) (ps : List ℕ) (w : Word) (st : Stands x (at_end ps w)) (f : Found) (b : Behind A_21 w x.limit f) where
  pub not_last : f.class ≡ 0 → Stands x (at_end ps (suffix_all_alef_maqsura w))
  not_last h = by (ends_with w last)
      (λ e. absurd (omega (arith, b.finds.class ∙ class_is w ∙ ap (λ (t : Bool). pick t 1 0) e)))
      (λ e. subst (λ (v : Word). Stands x (at_end ps v)) (sym (maqsura-stays w e)) st)

  module _ (some1 : f.class ≡ 0 → ⊥) where
    ends : ends_with w last ≡ true
    ends = by (ends_with w last) (λ e. e) (λ e. absurd (some1 (b.finds.class ∙ class_is w ∙ ap (λ (t : Bool). pick t 1 0) e)))

    m : ℕ
    m = length w - 1

    split : w ≡ take m w ++ last
    unfolding m
    split = ends_split w last ends

    lengths : (length w ≡ length (take m w) + 1) × (size w ≡ size (take m w) + 2) × (length (take m w) ≡ m) × (f.cursor ≡ x.limit - 2)
    unfolding m encode encode1
    lengths = (
      ap length split ∙ length-append (take m w) last,
      ap size split ∙ size-append (take m w) last,
      length-take-le m w (omega arith),
      b.cursor ∙ ap (λ (k : Word). x.limit - size k) (letters_are w ends),
    )

    place : At w m f.cursor
    place = let l = lengths in (omega (arith, l.0, l.2), omega (arith, l.1, l.3, st.sized))

    pub room : (f.cursor + 2 ≤ x.cursor) × (x.cursor ≤ x.limit)
    room = let l = lengths in let e = st.cursor.1 ∙ ap size (take-length w) in (omega (arith, l.1, l.3, st.sized, e), omega (arith, st.sized, e))

    -- both letters have two bytes
    as_wide : AsWide w m (length w) (yeh ∷ [])
    unfolding m encode1
    as_wide =
        let l = lengths in (
          omega (arith, l.0, l.2),
          ap (λ (z : Word). widths (drop m z)) (take-length w ∙ split) ∙ ap widths (drop_at (take m w) last m l.2),
        )

    pub is_last : (y : Env) → ((c : Chars) → Stands x c → (b k : ℕ) → At c.text b f.cursor → At c.text k x.cursor → c.back ≤ b → AsWide c.text b k (yeh ∷ []) → Stands y (slice_from c b k (yeh ∷ [])))
        → Stands y (at_end ps (suffix_all_alef_maqsura w))
    unfolding m
    is_last y sl =
        let l = lengths in
        let t : take m w ++ (yeh ∷ []) ++ drop (length w) w ≡ suffix_all_alef_maqsura w =
        ap (λ (z : Word). take m w ++ (yeh ∷ []) ++ z) (drop-length w) ∙ append-nil (take m w ++ (yeh ∷ [])) ∙ sym (maqsura_at (take m w)) ∙ ap suffix_all_alef_maqsura (sym split) in
        let n : length (take m w ++ (yeh ∷ []) ++ drop (length w) w) ≡ length w =
        ap (λ (z : Word). length (take m w ++ (yeh ∷ []) ++ z)) (drop-length w) ∙ ap length (append-nil (take m w ++ (yeh ∷ []))) ∙ length-append (take m w) (yeh ∷ []) ∙ sym l.0 in
        let c : moved (length w) m (length w) 1 ≡ length (suffix_all_alef_maqsura w) =
        sym (moved-behind (length w) m (length w) 1 (omega arith)) ∙ (let z : length w - (length w - m) + 1 ≡ length w = omega (arith, l.0, l.2) in z) ∙ sym n ∙ ap length t in
        let q : replaced (take (length w) ps) m (length w - 1) [] ≡ take (length (suffix_all_alef_maqsura w)) ps =
        ap (λ (z : List ℕ). z ++ drop m (take (length w) ps)) (append-nil (take m (take (length w) ps))) ∙ take-append-drop m (take (length w) ps) ∙ ap (λ (k : ℕ). take k ps) (sym n ∙ ap length t) in
        subst (Stands y) (λ i. record { text = t i; places = q i; cursor = c i; back = 0 }) (sl (at_end ps w) st m (length w) place st.cursor (omega arith) as_wide)
