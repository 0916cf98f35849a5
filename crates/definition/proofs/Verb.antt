-- Where the verb fails it has cut nothing, and no row is taken by a rule all of whose rows its Step1 and Step2a cover. Assumes nothing.
use mathlib.Core.Path.{◌≡◌, refl, sym, ◌∙◌, subst}
use mathlib.Core.Bool.{Bool, true}
use mathlib.Core.List.{List, [], ◌∷◌}
use mathlib.Core.Option.{Option, none, some}
use Prim.Native.Nat.{ℕ}
use native.Mathlib.Omega.{arith}
use lib.ListN.{length}
use Rattle.definition.specs.Words.{pick, every, ends_with}
use Rattle.definition.specs.Tables.{Row}
use Rattle.definition.specs.Search.{Rule, row_at, least_letters, taken}
use Rattle.definition.specs.Tries.{Step, Try, done, failed, nothing, ◌then_try◌, first_of, again}
use Rattle.definition.specs.Endings.{SuffixStep, verb_step1, verb_step2a, verb_step2b, verb_step2c, suffix, Cutting, cut, after_verb_step1, verb}
use Rattle.definition.specs.Facts.{Idle}
use Rattle.definition.proofs.Match.{by}
use Rattle.definition.proofs.Found.{taken_some, all_at}
use Rattle.definition.proofs.Triples.{Ends, Does, weaker, does_then, does_or, does_last, does_again}
use Rattle.definition.proofs.Cutting.{cut_at}
use Rattle.definition.proofs.Cover.{covers, cover}

-- ---- each row of a rule is taken by the verb's Step1 or by its Step2a
abbrev covered_row : Rule → Row → Bool
covered_row s k =
    pick (covers (suffix verb_step1) k.letters (least_letters s.guards k.class)) true
    (covers (suffix verb_step2a) k.letters (least_letters s.guards k.class))

abbrev pub covered_by_verb : Rule → Bool
covered_by_verb s = every (covered_row s) s.table

uncovered : (s : Rule) (v : Cutting) → covered_by_verb s ≡ true → Idle verb_step1 v → Idle verb_step2a v → taken (ends_with v.text) s (length v.text) ≡ none
uncovered s v c one two = go (taken (ends_with v.text) s (length v.text)) refl
  where
    go : (o : Option ℕ) → taken (ends_with v.text) s (length v.text) ≡ o → o ≡ none
    go none p = refl
    go (some r) p =
        let tk = taken_some (ends_with v.text) s (length v.text) r p in
        let k : Row = row_at s.table r in
        let g : ℕ = least_letters s.guards k.class in
        let cr : covered_row s k ≡ true = all_at (covered_row s) s.table c r tk.inside in
        absurd (by (covers (suffix verb_step1) k.letters g)
        (λ t. cover (suffix verb_step1) v.text k.letters g (length v.text) t tk.matches tk.enough one)
        (λ t. cover (suffix verb_step2a) v.text k.letters g (length v.text) (rw t at cr) tk.matches tk.enough two))

-- ---- the verb
abbrev Any : Cutting → Type 0
Any v = Unit {0}

any : (t : Try Cutting) → Ends Any Any t
any (done v) = tt
any (failed v) = tt

-- w is as before, and Step1 and Step2a take no row of it
record Untaken (w v : Cutting) : Type 0 where
  same : v ≡ w
  one : Idle verb_step1 w
  two : Idle verb_step2a w

module _ (w : Cutting) where
  abbrev Here : Cutting → Type 0
  Here v = v ≡ w

  -- where a cut of w fails, w stays, and the step takes no row
  cut_here : (s : SuffixStep) → Does Here Any (λ (v : Cutting). (v ≡ w) × Idle s w) (cut s)
  cut_here s = cut_at w Any s (λ r e. tt)

  abbrev One : Cutting → Type 0
  One v = (v ≡ w) × Idle verb_step1 w

  cut_any : (s : SuffixStep) (fs : List (Step Cutting)) → Does Any Any One (first_of fs) → Does Any Any One (first_of (cut s ∷ fs))
  cut_any s fs = does_or Any Any One Any (cut s) fs (λ v u. any (cut s v))

  nothing_any : Does Any Any One (first_of (nothing ∷ []))
  unfolding first_of
  nothing_any v u = tt

  verb-ends : Ends Any (Untaken w) (verb w)
  unfolding verb
  verb-ends =
      does_or Here Any (Untaken w) One _ (cut verb_step2b ∷ cut verb_step2a ∷ [])
      (does_then Here Any One Any (cut verb_step1 then_try again (length w.text) (cut verb_step1)) (first_of after_verb_step1)
      (does_then Here Any One Any (cut verb_step1) (again (length w.text) (cut verb_step1)) (cut_here verb_step1)
      (does_again Any One (length w.text) (cut verb_step1) (λ v u. any (cut verb_step1 v))))
      (cut_any verb_step2a _ (cut_any verb_step2c (nothing ∷ []) nothing_any)))
      (does_or One Any (Untaken w) One (cut verb_step2b) (cut verb_step2a ∷ [])
      (λ v h. weaker Any (λ (x : Cutting). (x ≡ w) × Idle verb_step2b w) Any One (λ x p. p) (λ x p. (p.0, h.1)) (cut verb_step2b v) (cut_here verb_step2b v h.0))
      (does_or One Any (Untaken w) (Untaken w) (cut verb_step2a) []
      (λ v h. weaker Any (λ (x : Cutting). (x ≡ w) × Idle verb_step2a w) Any (Untaken w) (λ x p. p) (λ x p. record { same = p.0; one = h.1; two = p.1 }) (cut verb_step2a v) (cut_here verb_step2a v h.0))
      (does_last (Untaken w) Any)))
      w refl

  untaken : (v : Cutting) → verb w ≡ failed v → Untaken w v
  untaken v e = subst (Ends Any (Untaken w)) e verb-ends

  pub verb-failed : (v : Cutting) → verb w ≡ failed v → v ≡ w
  verb-failed v e = (untaken v e).same

  pub verb_idle : (v : Cutting) → verb w ≡ failed v → Idle verb_step2a w
  verb_idle v e = (untaken v e).two

  -- where it cannot fail, it succeeds
  pub verb-done : ((v : Cutting) → verb w ≡ failed v → ⊥) → (v : Cutting) × (verb w ≡ done v)
  verb-done f = go (verb w) refl
    where
      go : (t : Try Cutting) → verb w ≡ t → (v : Cutting) × (verb w ≡ done v)
      go (done v) e = (v, e)
      go (failed v) e = absurd (f v e)

  module _ (s : Rule) (c : covered_by_verb s ≡ true) where
    pub none_by_verb : (v : Cutting) → verb w ≡ failed v → taken (ends_with w.text) s (length w.text) ≡ none
    none_by_verb v e = uncovered s w c (untaken v e).one (untaken v e).two

    pub not_by_verb : (r : ℕ) → taken (ends_with w.text) s (length w.text) ≡ some r → (v : Cutting) → verb w ≡ failed v → ⊥
    not_by_verb r p v e =
        let q : none ≡ some r = sym (none_by_verb v e) ∙ p in
        let z : ◌≡◌ {A = ℕ} 0 1 = cc in
        omega arith

    pub taken_by_verb : (r : ℕ) → taken (ends_with w.text) s (length w.text) ≡ some r → (v : Cutting) × (verb w ≡ done v)
    taken_by_verb r p = verb-done (not_by_verb r p)
