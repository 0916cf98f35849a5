-- A run of a line program by the contracts of `feed` and `finish` alone: which calls it makes, and what they write.
use Rattle.std.specs.Prelude.{List, [], ◌∷◌, ◌++◌, ℕ, take, drop}
use Rattle.lines.specs.Machine.{Reading, Feeds, Ends}

-- Calls answer room s pieces written: from a reader that reads s on, the pieces are fed one after the other and the input is ended; what the calls
-- wrote in front of their outputs, joined, is written. Each call begins with the reader that the one before left. Its output
-- may have any room and hold anything.
pub data Calls (answer : List ℕ → List ℕ) (room : ℕ) : Reading → List (List ℕ) → List ℕ → Type 0 where
  -- `finish`, where no piece is left
  finished : {s : Reading} {o o' : List ℕ} {count : ℕ} → Ends answer s o o' count → Calls answer room s [] (take count o')
  -- a piece that is taken whole
  passed : {s : Reading} {pieces : List (List ℕ)} {written : List ℕ} → Calls answer room s pieces written → Calls answer room s ([] ∷ pieces) written
  -- `feed` on a piece; what it did not take stays a piece
  fed : {s s' : Reading} {piece o o' : List ℕ} {used count : ℕ} {pieces : List (List ℕ)} {written : List ℕ}
      → Feeds answer room piece s s' o o' used count
      → Calls answer room s' (drop used piece ∷ pieces) written
      → Calls answer room s (piece ∷ pieces) (take count o' ++ written)
