-- How steps are put together. A step succeeds or fails, and what it did before it failed stays done.
-- Source: the Snowball manual, on the signals that commands give and on `or`, `repeat` and `try`.
use Rattle.std.specs.Prelude.{ℕ, zero, suc, Bool, true, false, List, [], ◌∷◌}

pub data Try (A : Type 0) : Type 0 where
  done : A → Try A
  failed : A → Try A

abbrev pub Step : Type 0 → Type 0
Step A = A → Try A

module _ {A : Type 0} where
  infixl 30 ◌then_try◌
  abbrev pub after : Try A → A
  after (done a) = a
  after (failed a) = a

  abbrev pub is_done : Try A → Bool
  is_done (done a) = true
  is_done (failed a) = false

  abbrev pub Failed : Try A → Type 0
  Failed (done a) = ⊥
  Failed (failed a) = Unit {0}

  abbrev pub nothing : Step A
  nothing a = done a

  abbrev pub and_then : Try A → Step A → Try A
  and_then (done a) g = g a
  and_then (failed a) g = failed a

  abbrev pub if_failed : Try A → Step A → Try A
  if_failed (done a) g = done a
  if_failed (failed a) g = g a

  abbrev pub while_done : Try A → Step A → Try A
  while_done (done a) g = g a
  while_done (failed a) g = done a

  -- the second after the first has succeeded
  unfoldable pub ◌then_try◌ : Step A → Step A → Step A
  ◌then_try◌ f g a = and_then (f a) g

  -- steps that follow each other, as long as they succeed
  abbrev pub in_turn : List (Step A) → Step A
  in_turn [] = nothing
  in_turn (f ∷ []) = f
  in_turn (f ∷ g ∷ fs) = f then_try in_turn (g ∷ fs)

  -- Snowball's `or`: the first that succeeds
  unfoldable pub first_of : List (Step A) → Step A
  first_of [] a = failed a
  first_of (f ∷ fs) a = if_failed (f a) (first_of fs)

  -- Snowball's `repeat`: as often as it succeeds, at most n times
  unfoldable pub again : ℕ → Step A → Step A
  again zero f a = done a
  again (suc n) f a = while_done (f a) (again n f)

  -- Snowball's `try`: whether it succeeds or not
  unfoldable pub attempt : Step A → Step A
  attempt f a = done (after (f a))

  -- changes, which never fail, one after the other
  abbrev pub all_of : List (A → A) → A → A
  all_of [] a = a
  all_of (f ∷ fs) a = all_of fs (f a)
