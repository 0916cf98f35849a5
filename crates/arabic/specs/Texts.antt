-- What the letter loops of items 2 and 5 leave in an array.
use Rattle.std.specs.Prelude.{ℕ, ◌≤◌, ◌≡◌, Bool, List, length, take}
use Rattle.utf8.specs.Utf8.{encode}
use Rattle.utf8.specs.Beside.{at_letters}
use Rattle.places.specs.Places.{Typed, letters_of, places_of, normal_places}
use Rattle.snowball.specs.Chars.{Chars, started}
use Rattle.snowball.specs.Stands.{work_size}
use Rattle.definition.specs.Words.{Word, pick}
use Rattle.definition.specs.Normal.{normalise}
use Rattle.definition.specs.Finish.{last, other, finish}
use Rattle.definition.specs.Kind.{Kind}
use Rattle.definition.specs.Endings.{endings_leave}
use Rattle.definition.specs.Stem.{fronting}
use Rattle.arabic.specs.Fronts.{front_places}

-- the text of typed letters, each with its place, and the cursor in front
abbrev pub typed_text : List Typed → Chars
typed_text ts = started (letters_of ts) (places_of ts)

-- item 2: the first r bytes of new encode the letters normalised, and beside them stand their places
pub record Normalised (ts : List Typed) (new places : List ℕ) (r : ℕ) : Type 0 where
  pub bytes : take r new ≡ encode (normalise (letters_of ts))
  pub sized : r ≡ length (encode (normalise (letters_of ts)))
  pub within : r ≤ work_size
  pub placed : at_letters (normalise (letters_of ts)) places ≡ normal_places ts

-- of the places ps of the letters of a normalised word n of kind k, those of the letters that items 3 to 5 leave
abbrev pub places_by : Kind → Word → List ℕ → List ℕ
places_by k n ps = front_places (take (length (endings_leave k n)) ps) (fronting k n)

-- item 5 on one letter, the last or another
abbrev pub changed : Bool → ℕ → ℕ
changed ending c = pick ending (last c) (other c)

-- item 5: new encodes cs finished, and is as long as old
pub record Finished (cs : Word) (old new : List ℕ) : Type 0 where
  pub bytes : new ≡ encode (finish cs)
  pub sized : length new ≡ length old
