-- A line is answered by the word as it is typed, its story and its stem, or by its refusal, with an empty line behind.
use Rattle.std.specs.Prelude.{ℕ, ◌+◌, List, [], ◌∷◌, ◌++◌}
use Rattle.stemmer.specs.Entries.{most_bytes, enough_room, checked, stem_bytes}
use Rattle.story.specs.Entry.{story_room, story_bytes}
use Rattle.lines.specs.Plain.{line_feed}
use Rattle.lines.specs.Refusals.{text_after}

-- what is told of an accepted word
unfoldable pub told : List ℕ → List ℕ
told word = word ++ line_feed ∷ [] ++ story_bytes word ++ stem_bytes word

-- what answers a line
unfoldable pub explained : List ℕ → List ℕ
explained word = text_after (checked word) (told word) ++ line_feed ∷ line_feed ∷ []

-- the most bytes that this has
abbrev pub explained_room : ℕ
explained_room = most_bytes + 1 + story_room + enough_room + 2
