-- Two neighbouring alternatives of which one fails and changes nothing may change places. Assumes nothing.
use mathlib.Core.Path.{◌≡◌, refl, sym, ap, ◌∙◌}
use mathlib.Core.Logic.{◌⊎◌, inl, inr}
use mathlib.Core.List.{List, [], ◌∷◌}
use Prim.Native.Nat.{ℕ, zero, suc}
use Rattle.definition.specs.Tries.{Step, Try, done, failed, nothing, and_then, if_failed, while_done, ◌then_try◌, first_of, again}
use Rattle.definition.specs.Kind.{Kind, OPEN, DEFINED, if_open}

module _ {A : Type 0} where
  -- the step succeeds
  abbrev pub Succeeds : Step A → A → Type 0
  Succeeds f a = (b : A) × (f a ≡ done b)

  -- the step fails and changes nothing
  abbrev pub Fails : Step A → A → Type 0
  Fails f a = f a ≡ failed a

  abbrev pub Clean : Step A → A → Type 0
  Clean f a = Succeeds f a ⊎ Fails f a

  pub first_fails : (f : Step A) (fs : List (Step A)) (a : A) → Fails f a → first_of (f ∷ fs) a ≡ first_of fs a
  unfolding first_of
  first_fails f fs a p = ap (λ (t : Try A). if_failed t (first_of fs)) p

  pub first_succeeds : (f : Step A) (fs : List (Step A)) (a : A) (s : Succeeds f a) → first_of (f ∷ fs) a ≡ done s.0
  unfolding first_of
  first_succeeds f fs a s = ap (λ (t : Try A). if_failed t (first_of fs)) s.1

  -- what follows a clean step matters only where it fails
  pub behind : (f : Step A) (fs gs : List (Step A)) (a : A) → Clean f a → first_of fs a ≡ first_of gs a → first_of (f ∷ fs) a ≡ first_of (f ∷ gs) a
  behind f fs gs a (inl s) e = first_succeeds f fs a s ∙ sym (first_succeeds f gs a s)
  behind f fs gs a (inr p) e = first_fails f fs a p ∙ e ∙ sym (first_fails f gs a p)

  pub one_fails : (f g : Step A) (fs : List (Step A)) (a : A) → Fails f a → Clean g a → first_of (f ∷ g ∷ fs) a ≡ first_of (g ∷ f ∷ fs) a
  one_fails f g fs a p (inl s) = first_fails f (g ∷ fs) a p ∙ first_succeeds g fs a s ∙ sym (first_succeeds g (f ∷ fs) a s)
  one_fails f g fs a p (inr q) = first_fails f (g ∷ fs) a p ∙ first_fails g fs a q ∙ sym (first_fails g (f ∷ fs) a q ∙ first_fails f fs a p)

  pub exchange : (f g : Step A) (fs : List (Step A)) (a : A) → Clean f a → Clean g a → Fails f a ⊎ Fails g a
      → first_of (g ∷ f ∷ fs) a ≡ first_of (f ∷ g ∷ fs) a
  exchange f g fs a cf cg (inl p) = sym (one_fails f g fs a p cg)
  exchange f g fs a cf cg (inr p) = one_fails g f fs a p cf

  -- ---- alternatives that end with nothing succeed
  pub last_succeeds : (a : A) → Succeeds (first_of (nothing ∷ [])) a
  unfolding first_of
  last_succeeds a = (a, refl)

  pub or_succeeds : (f : Step A) (fs : List (Step A)) → ((a : A) → Succeeds (first_of fs) a) → (a : A) → Succeeds (first_of (f ∷ fs)) a
  unfolding first_of
  or_succeeds f fs h a = go (f a)
    where
      go : (t : Try A) → (b : A) × (if_failed t (first_of fs) ≡ done b)
      go (done b) = (b, refl)
      go (failed b) = h b

  -- and so does a repeated step
  pub again_succeeds : (n : ℕ) (f : Step A) (a : A) → Succeeds (again n f) a
  unfolding again
  again_succeeds zero f a = (a, refl)
  again_succeeds (suc n) f a = go (again_succeeds n f) (f a)
    where
      go : ((b : A) → Succeeds (again n f) b) → (t : Try A) → (b : A) × (while_done t (again n f) ≡ done b)
      go h (done b) = h b
      go h (failed b) = (b, refl)

  -- ---- a step and its sequel
  pub then_fails : (f g : Step A) (a : A) → Fails f a → Fails (f then_try g) a
  unfolding ◌then_try◌
  then_fails f g a p = ap (λ (t : Try A). and_then t g) p

  pub then_clean : (f g : Step A) (a : A) → Clean f a → ((b : A) → Succeeds g b) → Clean (f then_try g) a
  unfolding ◌then_try◌
  then_clean f g a (inl s) h = let r = h s.0 in inl (r.0, ap (λ (t : Try A). and_then t g) s.1 ∙ r.1)
  then_clean f g a (inr p) h = inr (then_fails f g a p)

  pub open_clean : (k : Kind) (f : Step A) (a : A) → Clean f a → Clean (if_open k f) a
  open_clean OPEN f a c = c
  open_clean DEFINED f a c = inr refl

  pub open_fails : (k : Kind) (f : Step A) (a : A) → Fails f a → Fails (if_open k f) a
  open_fails OPEN f a p = p
  open_fails DEFINED f a p = refl
