-- What the two searches read and answer, and what their parts find.
use Rattle.std.specs.Prelude.{ℕ, suc, ◌+◌, ◌-◌, ◌≤◌, ◌<◌, ◌≡◌, ◌⊎◌, Bool, true, false, List, [], ◌∷◌, reverse, length, take, drop, get_or, eqb, Option, Some, None}
use Rattle.definition.specs.Words.{Word, pick, begins_with, ends_with}
use Rattle.definition.specs.Tables.{Table}
use Rattle.definition.specs.Search.{row_at, longest}
use Rattle.definition.specs.Facts.{LongestMatch}
use Rattle.utf8.specs.Places.{size}
use Rattle.snowball.specs.Rows.{before}
use Rattle.snowball.specs.declared.among.Found.{Found}
use Rattle.snowball.specs.declared.among.Match.{Match}

-- the bytes of a text from one place up to another
unfoldable pub between : List ℕ → ℕ → ℕ → List ℕ
between t from to = take (to - from) (drop from t)

-- the same from their end, as a backward search reads them
unfoldable pub behind : List ℕ → ℕ → ℕ → List ℕ
behind t cursor from = reverse (between t from cursor)

-- what every search answers, where match says which rows of t match: the number of the longest match, and its class
pub record Finds (match : Word → Bool) (t : Table) (r : Found) : Type 0 where
  pub row : r.row ≡ longest match t
  pub best : LongestMatch match t r.row
  pub class : r.class ≡ (row_at t (longest match t)).class

-- the answer of a forward search from the place at, over the letters w up to the limit: the longest row, and the cursor behind it
pub record Ahead (t : Table) (w : Word) (at : ℕ) (r : Found) : Type 0 where
  pub finds : Finds (begins_with w) t r
  pub cursor : r.cursor ≡ at + size (row_at t (longest (begins_with w) t)).letters

-- the answer of a backward search from the place at, over the letters w down to limit_backward: the longest row, and the cursor before it
pub record Behind (t : Table) (w : Word) (at : ℕ) (r : Found) : Type 0 where
  pub finds : Finds (ends_with w) t r
  pub cursor : r.cursor ≡ at - size (row_at t (longest (ends_with w) t)).letters

-- The same answers by bytes, whatever the bytes are: t is the table of the rows' bytes, and s the bytes that are searched.
pub record AheadBytes (t : Table) (s : List ℕ) (at : ℕ) (r : Found) : Type 0 where
  pub finds : Finds (begins_with s) t r
  pub cursor : r.cursor ≡ at + length (row_at t (longest (begins_with s) t)).letters

pub record BehindBytes (t : Table) (s : List ℕ) (at : ℕ) (r : Found) : Type 0 where
  pub finds : Finds (ends_with s) t r
  pub cursor : r.cursor ≡ at - length (row_at t (longest (ends_with s) t)).letters

-- ---- the parts

-- the longest row of t that matches, with its class and the number of its bytes
pub record LongestRow (match : Word → Bool) (t : Table) (r : Match) : Type 0 where
  pub row : r.row ≡ longest match t
  pub class : r.class ≡ (row_at t (longest match t)).class
  pub len : r.len ≡ length (row_at t (longest match t)).letters

-- how many bytes u and s share from their starts on
unfoldable pub lcp : List ℕ → List ℕ → ℕ
lcp [] s = 0
lcp (x ∷ u) [] = 0
lcp (x ∷ u) (y ∷ s) = pick (eqb x y) (suc (lcp u s)) 0

-- Where the halving ends: at the last key that does not come after s, with how many bytes the two share; or at row 0 with 0, where every key comes after s.
pub record Halved (us : List (List ℕ)) (s : List ℕ) (row common : ℕ) : Type 0 where
  pub in_table : row < length us
  pub at : ((row ≡ 0) × (common ≡ 0) × (before s (get_or us 0 []) ≡ true))
      ⊎ ((before s (get_or us row []) ≡ false) × (common ≡ lcp (get_or us row []) s) × ((row + 1 ≡ length us) ⊎ (before s (get_or us (row + 1) []) ≡ true)))

-- The walk over the links from row i, with q bytes in common: it ends at the first row of at most q bytes, or behind the last row where there is none.
pub data Walked (ns : List ℕ) (js : List (Option ℕ)) (q : ℕ) : ℕ → ℕ → Type 0 where
  hit : {i : ℕ} → get_or ns i 0 ≤ q → Walked ns js q i i
  out : {i : ℕ} → q < get_or ns i 0 → get_or js i None ≡ None → Walked ns js q i (length ns)
  on : {i j r : ℕ} → q < get_or ns i 0 → get_or js i None ≡ Some j → Walked ns js q j r → Walked ns js q i r
