-- Alternatives from the left, as straight-line code tries them. Assumes nothing.
use mathlib.Core.Path.{◌≡◌, refl}
use mathlib.Core.List.{List, [], ◌∷◌}
use Rattle.definition.specs.Tries.{Try, done, failed, Step, if_failed, first_of}

module _ {A : Type 0} where
  abbrev first_from : Try A → List (Step A) → Try A
  first_from t [] = t
  first_from t (g ∷ gs) = first_from (if_failed t g) gs

  from_left : (t : Try A) (fs : List (Step A)) → if_failed t (first_of fs) ≡ first_from t fs
  unfolding first_of
  from_left (done a) [] = refl
  from_left (failed a) [] = refl
  from_left (done a) (g ∷ gs) = from_left (done a) gs
  from_left (failed a) (g ∷ gs) = from_left (g a) gs

  pub first_from_lem : (f : Step A) (fs : List (Step A)) (a : A) → first_of (f ∷ fs) a ≡ first_from (f a) fs
  unfolding first_of
  first_from_lem f fs a = from_left (f a) fs
