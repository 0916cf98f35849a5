-- What is shown of the places: the main theorems of this crate. Assumes nothing.
use mathlib.Core.Path.{◌≡◌}
use mathlib.Core.List.{◌∷◌, ◌++◌, map}
use Prim.Native.Nat.{ℕ, ◌≤◌, ◌<◌}
use lib.ListN.{length, get_or}
use Rattle.definition.specs.Words.{Word}
use Rattle.definition.specs.Normal.{normal, normalise}
use Rattle.definition.specs.Stem.{stem, head_letter, run}
use Rattle.definition.specs.Floating.{unmarked, without_marks}
use Rattle.utf8.specs.Utf8.{encode}
use Rattle.places.specs.Places.{typed, letters_of, places_of, marks_out, kept_places, places}
use Rattle.places.specs.Laws.{Origin, Placed}
use Rattle.places.specs.Examples.{places_computed, place_samples}
use Rattle.places.proofs.Examples.{place_samples_right}
use Rattle.places.proofs.Lists.{typed-letters, typed_unmarked, typed-place}
use Rattle.places.proofs.Fewer.{stem-fewer}
use Rattle.places.proofs.Kept.{taken_both, places_placed, origin-given, places-below}

-- the places of the stem of a word as typed: as many as the stem has letters, never falling, each that of the typed letter that the stem's letter comes from
pub main_places : (w : Word) → Placed w (without_marks stem w) (places w)
main_places = places_placed

-- and the normalised letter is what normalising gives for that typed letter
pub main_given : (w : Word) (k p : ℕ) (o : Origin w k p) → get_or (without_marks normalise w) k 0 ≡ get_or (normal o.letter) o.part 0
main_given = origin-given

-- what is taken of the places of the normalised letters is taken of these letters too: it is head letter and run
pub main_taken : (w : Word) → kept_places w (normalise w) ≡ head_letter w ++ run w
main_taken = taken_both

-- a typed word has its letters, and without the floating marks those of the word without them
pub main_letters : (w : Word) → letters_of (typed w) ≡ w
main_letters = typed-letters

pub main_unmarked : (w : Word) → letters_of (marks_out (typed w)) ≡ unmarked w
main_unmarked = typed_unmarked

-- the place of each typed letter is the number of bytes before it
pub main_typed : (w before : Word) (c : ℕ) (behind : Word) → w ≡ before ++ (c ∷ behind) → get_or (places_of (typed w)) (length before) 0 ≡ length (encode before)
main_typed = typed-place

-- no more letters than bytes: with a word of up to 255 bytes room for 255 numbers is always enough
pub main_fewer : (w : Word) → length (without_marks stem w) ≤ length (encode w)
main_fewer = stem-fewer

-- and a place is less than the number of bytes: that of a word of up to 255 bytes fits a byte
pub main_below : (w : Word) (i : ℕ) → i < length (places w) → get_or (places w) i 0 < length (encode w)
main_below = places-below

-- words with their stems and places
pub main_place_samples : map places_computed place_samples ≡ place_samples
main_place_samples = place_samples_right
