-- What is shown of the program beside the functions' contracts, each closed by the file that proves it. Assumes nothing.
use mathlib.Core.Path.{◌≡◌}
use mathlib.Core.List.{List, [], ◌∷◌, ◌++◌, map, flatten}
use Prim.Native.Nat.{ℕ, ◌<◌}
use lib.ListN.{length}
use Rattle.stemmer.specs.Entries.{most_bytes}
use Rattle.lines.specs.Plain.{line_feed, output}
use Rattle.lines.specs.Machine.{Reading, ByKept, start}
use Rattle.lines.specs.Calls.{Calls}
use Rattle.lines.specs.Refusals.{refusal}
use Rattle.lines.proofs.Answering.{overlong, kept_enough}
use Rattle.lines.proofs.Main.{main_calls}
use Rattle.explain.specs.Explained.{told, explained, explained_room}
use Rattle.explain.specs.Examples.{examples}
use Rattle.explain.proofs.Examples.{examples_right}

-- the bytes that are kept of a line have its answer
pub main_kept : ByKept explained
unfolding explained
main_kept = kept_enough told (line_feed ∷ line_feed ∷ [])

-- so what calls of `feed` and `finish` write for an input in pieces is what the plain definition says of the pieces joined, as with the line program
pub main_explained : {s : Reading} {pieces : List (List ℕ)} {w : List ℕ} → s ≡ start → Calls explained explained_room s pieces w → w ≡ output explained (flatten pieces)
main_explained = main_calls main_kept

-- a line over 255 bytes is answered by `?1`
pub main_overlong : (w : List ℕ) → most_bytes < length w → explained w ≡ refusal 1 ++ line_feed ∷ line_feed ∷ []
unfolding explained
main_overlong = overlong told (line_feed ∷ line_feed ∷ [])

-- the examples have the answers that are listed beside them
pub main_examples : map (λ (e : List ℕ × List ℕ). explained e.0) examples ≡ map (λ (e : List ℕ × List ℕ). e.1) examples
main_examples = examples_right
