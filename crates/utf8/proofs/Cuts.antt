-- Well-formed bytes cut in two: each part is well formed just where the second starts with a letter. Assumes nothing.
use mathlib.Core.Path.{◌≡◌, refl, sym, ap, ◌∙◌, subst}
use mathlib.Core.Bool.{Bool, true, false}
use mathlib.Core.Logic.{inl, inr}
use mathlib.Core.List.{List, [], ◌∷◌, ◌++◌}
use Prim.Native.Nat.{ℕ}
use lib.Dec.{ltb}
use borrow.Author.Tests.{ltb-true, leb-true}
use Rattle.definition.proofs.Match.{by, clash}
use Rattle.utf8.specs.Utf8.{Scalars, well_formed}
use Rattle.utf8.specs.Places.{starts, starts_letter}
use Rattle.utf8.proofs.Text.{Lead, StartsLead, encode-starts, cut, match_front, scalars-left, scalars_right, well_formed_text, text_well_formed}
use Rattle.utf8.proofs.Places.{starts_lead}

-- ---- where a letter starts, and the first byte of well-formed bytes

lead : (b : ℕ) → starts b ≡ true → Lead b
lead b e = by (ltb b 0x80) (λ t. inl (ltb-true b 0x80 t)) (λ t. inr (leb-true 0xC0 b (rw t at e)))

leads : (v : List ℕ) → starts_letter v ≡ true → StartsLead v
leads [] e = tt
leads (b ∷ v) e = lead b e

lead_starts : (v : List ℕ) → StartsLead v → starts_letter v ≡ true
lead_starts [] l = refl
lead_starts (b ∷ v) l = starts_lead b l

formed-starts : (v : List ℕ) → well_formed v ≡ true → starts_letter v ≡ true
formed-starts v h = let t = well_formed_text v h in lead_starts v (subst StartsLead (sym t.2) (encode-starts t.0))

-- ---- the two parts
module _ (u v : List ℕ) (h : well_formed (u ++ v) ≡ true) where
  both-formed : starts_letter v ≡ true → (well_formed u ≡ true) × (well_formed v ≡ true)
  both-formed e =
      let t = well_formed_text (u ++ v) h in
      let c = cut t.0 u v (sym t.2) (leads v e) in
      let s : Scalars (c.0 ++ c.1) = subst Scalars c.2 t.1 in (
        ap well_formed c.3 ∙ text_well_formed c.0 (scalars-left c.0 c.1 s),
        ap well_formed c.4 ∙ text_well_formed c.1 (scalars_right c.0 c.1 s),
      )

  rest-formed : well_formed u ≡ true → well_formed v ≡ true
  rest-formed e =
      let t = well_formed_text (u ++ v) h in
      let f = well_formed_text u e in
      let m = match_front t.0 f.0 v t.1 f.1 (sym t.2 ∙ ap (λ (x : List ℕ). x ++ v) f.2) in
      ap well_formed m.2 ∙ text_well_formed m.0 (scalars_right f.0 m.0 (subst Scalars m.1 t.1))

  unformed : (b : Bool) → (b ≡ true → well_formed v ≡ true) → starts_letter v ≡ false → b ≡ false
  unformed true f e = absurd (clash (formed-starts v (f refl)) e)
  unformed false f e = refl

  pub parts-formed : (well_formed u ≡ starts_letter v) × (well_formed v ≡ starts_letter v)
  parts-formed = by (starts_letter v)
      (λ e. ((both-formed e).0 ∙ sym e, (both-formed e).1 ∙ sym e))
      (λ e. (unformed (well_formed u) rest-formed e ∙ sym e, unformed (well_formed v) (λ x. x) e ∙ sym e))
