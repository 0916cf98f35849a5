-- Request A7: for each letter of a stem, the byte of the typed word where the letter that it came from begins.
-- It rests on the definition's own normal, front, head letter and run: no step is gone through again.
use Rattle.std.specs.Prelude.{ℕ, ◌+◌, List, [], ◌∷◌, ◌++◌, length, take, drop}
use Rattle.definition.specs.Letters.{alef_hamza_above, waw_hamza}
use Rattle.definition.specs.Words.{Word, pick, begins_with}
use Rattle.definition.specs.Normal.{normal}
use Rattle.definition.specs.Stem.{front, head_letter, run}
use Rattle.definition.specs.Floating.{floating}
use Rattle.utf8.specs.Utf8.{encode1}

-- a typed letter, and the byte at which it begins
pub record Typed : Type 0 where
  pub letter : ℕ
  pub place : ℕ

abbrev pub typed_at : ℕ → ℕ → Typed
typed_at c p = record { letter = c; place = p }

-- the letters of a typed word with their places, the first at the byte p
unfoldable pub typed_from : ℕ → Word → List Typed
typed_from p [] = []
typed_from p (c ∷ w) = typed_at c p ∷ typed_from (p + length (encode1 c)) w

-- the first at the byte 0
unfoldable pub typed : Word → List Typed
typed w = typed_from 0 w

-- the letters without their places
unfoldable pub letters_of : List Typed → Word
letters_of [] = []
letters_of (t ∷ ts) = t.letter ∷ letters_of ts

-- the places without their letters
unfoldable pub places_of : List Typed → List ℕ
places_of [] = []
places_of (t ∷ ts) = t.place ∷ places_of ts

-- The floating marks are taken out before all else; the other letters keep their places.
unfoldable pub marks_out : List Typed → List Typed
marks_out [] = []
marks_out (t ∷ ts) = pick (floating t.letter) (marks_out ts) (t ∷ marks_out ts)

-- p once for each letter of w
unfoldable pub each_at : ℕ → Word → List ℕ
each_at p [] = []
each_at p (c ∷ w) = p ∷ each_at p w

-- Item 2: what a letter becomes has its place, both letters of a ligature, and none where it is deleted.
unfoldable pub normal_places : List Typed → List ℕ
normal_places [] = []
normal_places (t ∷ ts) = each_at t.place (normal t.letter) ++ normal_places ts

-- Which of the two letters with which the front begins gives the head letter its place, from 0: the second, and of 0623 0624 the first.
-- Where there is no head letter it does not matter.
unfoldable pub head_from : Word → ℕ
head_from taken = pick (begins_with taken (alef_hamza_above ∷ waw_hamza ∷ [])) 0 1

-- The stem of a word is its head letter, if there is one, and its run, letter for letter, whatever the steps change in them.
-- Of the places ps of the normalised letters it has those of head letter and run. Behind the front the run begins: where a step makes one
-- letter of two there, the first of them counts to the front, and the run has the second's place.
unfoldable pub kept_places : Word → List ℕ → List ℕ
kept_places w ps = take (length (head_letter w)) (drop (head_from (front w)) ps) ++ take (length (run w)) (drop (length (front w)) ps)

-- the places of the letters of the stem of typed letters
unfoldable pub stem_places : List Typed → List ℕ
stem_places ts = kept_places (letters_of ts) (normal_places ts)

-- the same of a word as it is typed
unfoldable pub places : Word → List ℕ
places w = stem_places (marks_out (typed w))
