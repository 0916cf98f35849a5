-- A step from states with P ends in states with Q where it succeeds, with R where it fails. Assumes nothing.
use Prim.Native.Nat.{ℕ, zero, suc}
use mathlib.Core.List.{List, [], ◌∷◌}
use Rattle.definition.specs.Tries.{Try, done, failed, Step, after, and_then, if_failed, while_done, ◌then_try◌, first_of, again, attempt}
use Rattle.definition.specs.Kind.{Kind, OPEN, DEFINED, if_open}

module _ {A : Type 0} where
  abbrev pub Ends : (A → Type 0) → (A → Type 0) → Try A → Type 0
  Ends Q R (done a) = Q a
  Ends Q R (failed a) = R a

  abbrev pub Does : (P Q R : A → Type 0) → Step A → Type 0
  Does P Q R f = (a : A) → P a → Ends Q R (f a)

  pub ends-after : (Q : A → Type 0) (t : Try A) → Ends Q Q t → Q (after t)
  ends-after Q (done a) h = h
  ends-after Q (failed a) h = h

  pub weaker : (Q R Q' R' : A → Type 0) → ((a : A) → Q a → Q' a) → ((a : A) → R a → R' a) → (t : Try A) → Ends Q R t → Ends Q' R' t
  weaker Q R Q' R' q r (done a) h = q a h
  weaker Q R Q' R' q r (failed a) h = r a h

  module _ (P Q R : A → Type 0) where
    pub does_then : (S : A → Type 0) (f g : Step A) → Does P S R f → Does S Q R g → Does P Q R (f then_try g)
    unfolding ◌then_try◌
    does_then S f g df dg a p = go (f a) (df a p)
      where
        go : (t : Try A) → Ends S R t → Ends Q R (and_then t g)
        go (done b) s = dg b s
        go (failed b) r = r

    -- each alternative may change what fails hold for the next
    pub does_or : (S : A → Type 0) (f : Step A) (fs : List (Step A)) → Does P Q S f → Does S Q R (first_of fs) → Does P Q R (first_of (f ∷ fs))
    unfolding first_of
    does_or S f fs df ds a p = go (f a) (df a p)
      where
        go : (t : Try A) → Ends Q S t → Ends Q R (if_failed t (first_of fs))
        go (done b) q = q
        go (failed b) s = ds b s

    pub does_attempt : (f : Step A) → Does P Q Q f → Does P Q R (attempt f)
    unfolding attempt
    does_attempt f df a p = ends-after Q (f a) (df a p)

    pub does_if : (k : Kind) (f : Step A) → Does P Q R f → Does P Q R (λ (a : A). failed a) → Does P Q R (if_open k f)
    does_if OPEN f df dn a p = df a p
    does_if DEFINED f df dn a p = dn a p

  pub does_last : (P Q : A → Type 0) → Does P Q P (first_of [])
  unfolding first_of
  does_last P Q a p = p

  pub does_again : (P R : A → Type 0) (n : ℕ) (f : Step A) → Does P P P f → Does P P R (again n f)
  unfolding again
  does_again P R zero f df a p = p
  does_again P R (suc n) f df a p = go (does_again P R n f df) (f a) (df a p)
    where
      go : Does P P R (again n f) → (t : Try A) → Ends P P t → Ends P R (while_done t (again n f))
      go d (done b) q = d b q
      go d (failed b) q = q

  -- what all alternatives keep
  module _ (P : A → Type 0) where
    abbrev pub Keeps : Step A → Type 0
    Keeps f = Does P P P f

    abbrev AllKeep : List (Step A) → Type 0
    AllKeep [] = Unit {0}
    AllKeep (f ∷ fs) = Keeps f × AllKeep fs

    pub keeps_first : (fs : List (Step A)) → AllKeep fs → Keeps (first_of fs)
    keeps_first [] h = does_last P P
    keeps_first (f ∷ fs) h = does_or P P P P f fs h.0 (keeps_first fs h.1)

    pub keeps_then : (f g : Step A) → Keeps f → Keeps g → Keeps (f then_try g)
    keeps_then f g = does_then P P P P f g

    pub keeps_if : (k : Kind) (f : Step A) → Keeps f → Keeps (if_open k f)
    keeps_if k f h = does_if P P P k f h (λ a p. p)
