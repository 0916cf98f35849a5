-- What is shown of the searches beside the functions' contracts, each closed by the file that proves it. Assumes nothing.
use mathlib.Core.Path.{◌≡◌, refl, ◌∙◌}
use mathlib.Core.List.{List, reverse}
use Prim.Native.Nat.{ℕ}
use lib.Dec.{T}
use Rattle.std.proofs.Common.{Option}
use lib.ListN.{length, length-reverse}
use Rattle.definition.specs.Words.{Word, begins_with, ends_with}
use Rattle.definition.specs.Tables.{Table}
use Rattle.definition.specs.Search.{longest}
use Rattle.utf8.specs.Utf8.{Scalars, encode}
use Rattle.snowball.specs.Rows.{keys, keys_back, well_formed, rows_of, byte_table, AllScalars}
use Rattle.snowball.specs.Search.{between, behind, Halved, Walked}
use Rattle.snowball.proofs.Bytes.{ahead_bytes, behind-bytes}
use Rattle.snowball.proofs.Answers.{matches-ahead, matches-behind, row_is}

-- in every table that passes the test, the halving and the walk find the definition's longest row, forward and backward
pub main_ahead : (ws : List (List ℕ)) (ns : List ℕ) (js : List (Option ℕ)) (i q r : ℕ) (cs : List ℕ) → length cs ≡ length ws → (s : List ℕ) → T (well_formed (keys ws ns) ns js)
    → Halved (keys ws ns) s i q → Walked ns js q i r → r ≡ longest (begins_with s) (rows_of ws ns cs)
main_ahead ws ns js i q r cs e s g H w =
    row_is (λ u. u) (λ u. refl) ws ns js g cs e s i q r H w ∙ (λ k. longest (matches-ahead s k) (rows_of ws ns cs))

pub main_behind : (ws : List (List ℕ)) (ns : List ℕ) (js : List (Option ℕ)) (i q r : ℕ) (cs : List ℕ) → length cs ≡ length ws → (text : List ℕ) (cursor from : ℕ)
    → T (well_formed (keys_back ws ns) ns js) → Halved (keys_back ws ns) (behind text cursor from) i q → Walked ns js q i r
    → r ≡ longest (ends_with (between text from cursor)) (rows_of ws ns cs)
unfolding behind
main_behind ws ns js i q r cs e text cursor from g H w =
    row_is reverse length-reverse ws ns js g cs e (between text from cursor) i q r H w
    ∙ (λ k. longest (matches-behind (between text from cursor) k) (rows_of ws ns cs))

-- a search over bytes answers the same row as one over letters
pub main_letters_ahead : (w : Word) (t : Table) → Scalars w → AllScalars t → longest (begins_with (encode w)) (byte_table t) ≡ longest (begins_with w) t
main_letters_ahead = ahead_bytes

pub main_letters_behind : (w : Word) (t : Table) → Scalars w → AllScalars t → longest (ends_with (encode w)) (byte_table t) ≡ longest (ends_with w) t
main_letters_behind = behind-bytes
