-- The row 0646 0627 of A_18 cuts in no word: where the verb's Step2a is tried, Step1 takes no row, and it would take this one. Assumes nothing.
use mathlib.Core.Path.{◌≡◌, refl, sym, subst}
use mathlib.Core.Bool.{true}
use mathlib.Core.List.{[], ◌∷◌}
use mathlib.Core.Option.{some}
use Prim.Native.Nat.{ℕ, ◌<◌}
use native.Mathlib.Omega.{arith}
use lib.ListN.{length}
use Rattle.definition.specs.Letters.{alef, noon}
use Rattle.definition.specs.Words.{Word, same, ends_with}
use Rattle.definition.specs.Tables.{A_17, A_18}
use Rattle.definition.specs.Search.{longer, longest, taken}
use Rattle.definition.specs.Tries.{Try, nothing, ◌then_try◌, first_of, again}
use Rattle.definition.specs.Kind.{Kind}
use Rattle.definition.specs.Endings.{SuffixStep, verb_step1, verb_step2a, verb_step2b, verb_step2c, noun_step1b, noun_step2a, noun_step2b, noun_step2c1, noun_step2c2, noun_step3, suffix, Cutting, cut_off, cut, after_verb_step1, verb}
use Rattle.definition.specs.Stem.{cutting}
use Rattle.definition.specs.Facts.{Idle, AllCuts, noon_alef, NotNoonAlef}
use Rattle.definition.proofs.Found.{taken_some}
use Rattle.definition.proofs.Triples.{Ends, Does, Keeps, weaker, does_then, does_or, does_last, does_again}
use Rattle.definition.proofs.Cutting.{Nominal, cut_at, cut_does, noun_keeps, endings_keep}
use Rattle.definition.proofs.Cover.{covers, cover}
use Rattle.definition.proofs.Again.{shorter, again-ends}

abbrev Spared : Cutting → Type 0
Spared v = AllCuts NotNoonAlef v.cuts

cut_spares : (s : SuffixStep) → ((r : ℕ) → NotNoonAlef s r) → Keeps Spared (cut s)
unfolding cut_off
cut_spares s f = cut_does Spared Spared s (λ v r e h. (f r, h))

-- ---- Step2a where Step1 takes no row
covered : covers (suffix verb_step1) (noon ∷ alef ∷ []) 5 ≡ true
unfolding suffix A_17 ends_with same longest longer
covered = refl

not_taken : (v : Cutting) → Idle verb_step1 v → (r : ℕ) → taken (ends_with v.text) (suffix verb_step2a) (length v.text) ≡ some r → r ≡ noon_alef → ⊥
unfolding suffix A_18
not_taken v idle r e q =
    let tk = taken_some (ends_with v.text) (suffix verb_step2a) (length v.text) noon_alef (subst (λ (i : ℕ). taken (ends_with v.text) (suffix verb_step2a) (length v.text) ≡ some i) q e) in
    cover (suffix verb_step1) v.text (noon ∷ alef ∷ []) 5 (length v.text) covered tk.matches tk.enough idle

abbrev Ready : Cutting → Type 0
Ready v = Spared v × Idle verb_step1 v

step2a_does : Does Ready Spared Ready (cut verb_step2a)
unfolding cut_off
step2a_does = cut_does Ready Spared verb_step2a (λ v r e h. (not_taken v h.1 r e, h.0))

step2b_does : Does Ready Spared Ready (cut verb_step2b)
unfolding cut_off
step2b_does = cut_does Ready Spared verb_step2b (λ v r e h. (tt, h.0))

-- ---- the verb
abbrev Shorter : Cutting → Cutting → Type 0
Shorter w x = Spared x × (length x.text < length w.text)

step1_does : (w : Cutting) → Spared w → Does (λ (v : Cutting). v ≡ w) (Shorter w) Ready (cut verb_step1)
unfolding cut_off
step1_does w h v q =
    weaker (Shorter w) (λ (x : Cutting). (x ≡ w) × Idle verb_step1 w) (Shorter w) Ready (λ x p. p) (λ x p. subst Ready (sym p.0) (h, p.1)) (cut verb_step1 v)
    (cut_at w (Shorter w) verb_step1 (λ r e. ((tt, h), shorter verb_step1 w r e)) v q)

again_does : (n : ℕ) → Does (λ (v : Cutting). Spared v × (length v.text < n)) Ready Ready (again n (cut verb_step1))
again_does n v h =
    let a = again-ends verb_step1 n v (omega (arith, h.1)) in
    let b = does_again Spared Ready n (cut verb_step1) (cut_spares verb_step1 (λ r. tt)) v h.0 in
    subst (λ (t : Try Cutting). Ends Ready Ready t) (sym a.1) (subst (λ (t : Try Cutting). Ends Spared Ready t) a.1 b, a.2)

verb_spares : Keeps Spared verb
unfolding verb
verb_spares w h =
    does_or Start Spared Spared Ready _ (cut verb_step2b ∷ cut verb_step2a ∷ [])
    (does_then Start Spared Ready Ready (cut verb_step1 then_try again (length w.text) (cut verb_step1)) (first_of after_verb_step1)
    (does_then Start Ready Ready (Shorter w) (cut verb_step1) (again (length w.text) (cut verb_step1))
    (step1_does w h) (again_does (length w.text)))
    (does_or Ready Spared Ready Ready _ _ step2a_does
    (does_or Ready Spared Ready Spared (cut verb_step2c) (nothing ∷ []) (λ v r. cut_spares verb_step2c (λ i. tt) v r.0) (does_or Spared Spared Ready Never nothing [] (λ v q. q) (λ v z. absurd z)))))
    (does_or Ready Spared Spared Ready (cut verb_step2b) (cut verb_step2a ∷ [])
    step2b_does
    (does_or Ready Spared Spared Ready (cut verb_step2a) [] step2a_does (λ v r. does_last Spared Spared v r.0)))
    w refl
  where
    Start : Cutting → Type 0
    Start v = v ≡ w

    Never : Cutting → Type 0
    Never v = ⊥

pub no_noon_alef : (k : Kind) (n : Word) → AllCuts NotNoonAlef (cutting k n).cuts
unfolding cutting
no_noon_alef k n = endings_keep Spared k n verb_spares (noun_keeps Spared noun-cuts k) tt
  where
    noun-cuts : (s : SuffixStep) → Nominal s → Keeps Spared (cut s)
    noun-cuts verb_step1 z = absurd (z tt)
    noun-cuts verb_step2a z = absurd (z tt)
    noun-cuts verb_step2b z = absurd (z tt)
    noun-cuts verb_step2c z = absurd (z tt)
    noun-cuts noun_step1b z = cut_spares noun_step1b (λ r. tt)
    noun-cuts noun_step2a z = cut_spares noun_step2a (λ r. tt)
    noun-cuts noun_step2b z = cut_spares noun_step2b (λ r. tt)
    noun-cuts noun_step2c1 z = cut_spares noun_step2c1 (λ r. tt)
    noun-cuts noun_step2c2 z = cut_spares noun_step2c2 (λ r. tt)
    noun-cuts noun_step3 z = cut_spares noun_step3 (λ r. tt)
