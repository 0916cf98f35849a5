-- The two searches: of all rows that match, the longest. With `begins_with` it is the match in front, with `ends_with` the match at the end.
-- Source: the Snowball manual, on `substring` and `among`, forward and backward.
use Rattle.std.specs.Prelude.{ℕ, zero, suc, Bool, true, false, List, [], ◌∷◌, leb, length, get_or}
use Rattle.std.proofs.Math.Option.{Option, none, some}
use Rattle.definition.specs.Words.{Word, pick}
use Rattle.definition.specs.Tables.{Row, Table}

-- the row of a number, from 0; behind the last row stands a row of no letters and class 0
abbrev pub row_at : Table → ℕ → Row
row_at t r = get_or t r (record { letters = []; class = 0 })

-- The number of the longest row that matches; with no match the table's number of rows.
-- Each row is held against the longest, r, of the rows t behind it.
unfoldable pub longer : Bool → Row → Table → ℕ → ℕ
longer true k t r = pick (leb (length (row_at t r).letters) (length k.letters)) 0 (suc r)
longer false k t r = suc r

unfoldable pub longest : (Word → Bool) → Table → ℕ
longest match [] = 0
longest match (k ∷ t) = longer (match k.letters) k t (longest match t)

-- a step's table, and its guards: the least number of letters for each class, from class 1 on
pub record Rule : Type 0 where
  pub table : Table
  pub guards : List ℕ

abbrev pub rule : Table → List ℕ → Rule
rule t least = record { table = t; guards = least }

abbrev pub least_letters : List ℕ → ℕ → ℕ
least_letters least zero = 0
least_letters least (suc k) = get_or least k 0

-- class 0 stands for no match
unfoldable pub met : List ℕ → ℕ → ℕ → Bool
met least zero n = false
met least (suc k) n = leb (least_letters least (suc k)) n

-- whether n letters meet the guard of the rule's row r; behind the last row is class 0
abbrev pub guard_met : Rule → ℕ → ℕ → Bool
guard_met s r n = met s.guards (row_at s.table r).class n

-- The longest row, if there is one and its guard is met by n letters. No shorter row is tried.
unfoldable pub taken : (Word → Bool) → Rule → ℕ → Option ℕ
taken match s n = pick (guard_met s (longest match s.table) n) (some (longest match s.table)) none
