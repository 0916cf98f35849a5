-- The state that `well_formed` keeps, against the state that decodes. Assumes nothing.
use mathlib.Core.Path.{◌≡◌, refl, sym, ap, ◌∙◌}
use Prim.Native.Nat.{ℕ, zero, suc, ◌+◌, ◌-◌, ◌*◌, ◌≤◌, ◌<◌}
use mathlib.Core.Bool.{Bool, true, false}
use mathlib.Core.List.{List, [], ◌∷◌}
use mathlib.Core.Option as letters
use mathlib.Core.Option.{none, some, map}
use native.Mathlib.Omega.{arith}
use native.Mathlib.Numerals.{add-one}
use lib.Dec.{leb}
use lib.ListN.{length, drop, get_or, drop_of_length-le}
use lib.Seq.{drop-cons}
use Rattle.std.specs.Prelude.{◌↔◌, IsTrue, Option, Some, None}
use Rattle.utf8.specs.Utf8.{State, whole, more, bad, filled, step, onto, run, is_some, well_formed}
use Rattle.utf8.specs.Reading.{bare, state_of, standing}
use Rattle.utf8.specs.declared.Reading.{Reading}
use Rattle.utf8.specs.declared.Reading.TheVariants.{Whole, One, Two, Three, BehindE0, BehindED, BehindF0, BehindF4}
use Rattle.definition.proofs.Match.{by}

bare-filled : (k a b : ℕ) → bare (filled k a) ≡ bare (filled k b)
unfolding filled
bare-filled zero a b = refl
bare-filled (suc k) a b = refl

-- a step needs no bits and no letter
bare-step : (s : State) (b : ℕ) → bare (step (bare s) b) ≡ bare (step s b)
unfolding step
bare-step (whole c) b = refl
bare-step (more k a lo hi) b =
    by (leb lo b)
    (λ t. by (leb b hi) (λ u. rw (t, u) (bare-filled k (0 * 64 + (b - 0x80)) (a * 64 + (b - 0x80)))) (λ u. rw (t, u) refl))
    (λ t. rw t refl)
bare-step bad b = refl

map_some : (c : ℕ) (o : letters.Option (List ℕ)) → is_some (map (λ (cs : List ℕ). c ∷ cs) o) ≡ is_some o
map_some c none = refl
map_some c (some cs) = refl

bad_none : (bs : List ℕ) → false ≡ is_some (run bad bs)
unfolding run
bad_none [] = refl
bad_none (b ∷ bs) = refl

onto_some : (s : State) (bs : List ℕ) → is_some (onto s (run s bs)) ≡ is_some (run s bs)
unfolding onto
onto_some (whole c) bs = map_some c (run (whole c) bs)
onto_some (more k a lo hi) bs = refl
onto_some bad bs = bad_none bs

run_step : (s : State) (b : ℕ) (bs : List ℕ) → is_some (run s (b ∷ bs)) ≡ is_some (run (step s b) bs)
unfolding run step
run_step (whole c) b bs = onto_some (step (whole c) b) bs
run_step (more k a lo hi) b bs = onto_some (step (more k a lo hi) b) bs
run_step bad b bs = bad_none bs

bare_bad : (s : State) (bs : List ℕ) → bare s ≡ bad → false ≡ is_some (run s bs)
bare_bad (whole c) bs e = absurd (cc)
bare_bad (more k a lo hi) bs e = absurd (cc)
bare_bad bad bs e = bad_none bs

-- a state past a whole letter
at_whole : State → Bool
at_whole (whole c) = true
at_whole (more k a lo hi) = false
at_whole bad = false

run_end : (s : State) → is_some (run s []) ≡ at_whole (bare s)
unfolding run at_whole
run_end (whole c) = refl
run_end (more k a lo hi) = refl
run_end bad = refl

is_whole : (r : Reading) (b : Bool) → IsTrue b ↔ (r ≡ Whole) → b ≡ at_whole (state_of r)
unfolding at_whole
is_whole Whole b h = grind arith
is_whole One b h = grind arith
is_whole Two b h = grind arith
is_whole Three b h = grind arith
is_whole BehindE0 b h = grind arith
is_whole BehindED b h = grind arith
is_whole BehindF0 b h = grind arith
is_whole BehindF4 b h = grind arith

-- the loop's invariant: the whole word is well formed just where what is left of it is, from the state kept
pub record Reads (w : List ℕ) (r : Reading) (i : ℕ) : Type 0 where
  pub state : State
  pub kept : bare state ≡ state_of r
  pub same : well_formed w ≡ is_some (run state (drop i w))

pub reads_start : (w : List ℕ) → Reads w Whole 0
reads_start w = record { state = whole 0; kept = refl; same = refl }

module _ {w : List ℕ} {r : Reading} {i : ℕ} (v : Reads w r i) where
  module _ (h : i < length w) where
    abbrev b : ℕ
    b = get_or w i 0

    past : well_formed w ≡ is_some (run (step v.state b) (drop (i + 1) w))
    past = v.same ∙ ap (λ (x : List ℕ). is_some (run v.state x)) (drop-cons w i 0 h) ∙ run_step v.state b (drop (suc i) w) ∙ ap (λ (n : ℕ). is_some (run (step v.state b) (drop n w))) (sym (add-one i))

    kept_past : (o : Option Reading) → standing o ≡ bare (step (state_of r) (get_or w i 0)) → bare (step v.state b) ≡ standing o
    kept_past o e = sym (e ∙ ap (λ (s : State). bare (step s b)) (sym v.kept) ∙ bare-step v.state b)

    pub reads_next : (o : Option Reading) (r' : Reading) → standing o ≡ bare (step (state_of r) (get_or w i 0)) → o ≡ Some r' → Reads w r' (i + 1)
    reads_next o r' e n = record { state = step v.state b; kept = kept_past o e ∙ ap standing n; same = past }

    pub reads_none : (o : Option Reading) → standing o ≡ bare (step (state_of r) (get_or w i 0)) → o ≡ None → false ≡ well_formed w
    reads_none o e n = bare_bad (step v.state b) (drop (i + 1) w) (kept_past o e ∙ ap standing n) ∙ sym past

  pub reads_end : (b : Bool) → length w ≤ i → IsTrue b ↔ (r ≡ Whole) → b ≡ well_formed w
  reads_end b h t =
      is_whole r b t ∙ sym (v.same ∙ ap (λ (x : List ℕ). is_some (run v.state x)) (drop_of_length-le w h) ∙ run_end v.state ∙ ap at_whole v.kept)
