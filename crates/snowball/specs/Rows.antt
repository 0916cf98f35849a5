-- Tables in the code: rows of six bytes beside their lengths, links and classes. The test that a table passes, and the definition's table that it stands for.
use Rattle.std.specs.Prelude.{ℕ, suc, Bool, true, false, not, List, [], ◌∷◌, reverse, length, take, get_or, leb, ltb, eqb, Option, Some, None}
use Rattle.definition.specs.Words.{Word, pick, both, every}
use Rattle.definition.specs.Tables.{Row, Table}
use Rattle.utf8.specs.Utf8.{Scalars, encode}

-- the keys of a search: of each row as many bytes as its length says, in the order in which they are read
abbrev pub keys_by : (List ℕ → List ℕ) → List (List ℕ) → List ℕ → List (List ℕ)
keys_by read [] ns = []
keys_by read (w ∷ ws) [] = read [] ∷ keys_by read ws []
keys_by read (w ∷ ws) (n ∷ ns) = read (take n w) ∷ keys_by read ws ns

-- the keys of a forward search
abbrev pub keys : List (List ℕ) → List ℕ → List (List ℕ)
keys ws ns = keys_by (λ s. s) ws ns

-- the keys of a backward search: the same, each from its end
abbrev pub keys_back : List (List ℕ) → List ℕ → List (List ℕ)
keys_back ws ns = keys_by reverse ws ns

-- ---- the test: keys rise, lengths and links are right

-- u comes before s in the order of a dictionary
abbrev pub before : List ℕ → List ℕ → Bool
before [] [] = false
before [] (y ∷ s) = true
before (x ∷ u) [] = false
before (x ∷ u) (y ∷ s) = pick (eqb x y) (before u s) (ltb x y)

-- each key comes before every later one
abbrev pub rising : List (List ℕ) → Bool
rising [] = true
rising (u ∷ us) = both (every (before u) us) (rising us)

-- s begins with u
abbrev pub begins : List ℕ → List ℕ → Bool
begins [] s = true
begins (x ∷ u) [] = false
begins (x ∷ u) (y ∷ s) = both (eqb x y) (begins u s)

-- what is read of the text begins with what is read of the key
abbrev pub matches : (List ℕ → List ℕ) → List ℕ → List ℕ → Bool
matches read text key = begins (read key) (read text)

-- v begins with u and is longer
abbrev pub proper : List ℕ → List ℕ → Bool
proper u v = both (begins u v) (ltb (length u) (length v))

-- j is the link of row i, whose key is v: the number of the longest of the keys us that v begins with and is longer than, or none
abbrev pub link_is : List (List ℕ) → ℕ → List ℕ → Option ℕ → Bool
link_is us i v None = every (λ u. not (proper u v)) us
link_is us i v (Some j) =
    both (ltb j i) (both (proper (get_or us j []) v) (every (λ u. pick (proper u v) (leb (length u) (length (get_or us j []))) true) us))

abbrev pub linked : List (List ℕ) → ℕ → List (List ℕ) → List (Option ℕ) → Bool
linked us i [] [] = true
linked us i [] (j ∷ js) = false
linked us i (v ∷ vs) [] = false
linked us i (v ∷ vs) (j ∷ js) = both (link_is us i v j) (linked us (suc i) vs js)

-- each length is 1 to 6, and is that of its key
abbrev pub sized : List (List ℕ) → List ℕ → Bool
sized [] [] = true
sized [] (n ∷ ns) = false
sized (u ∷ us) [] = false
sized (u ∷ us) (n ∷ ns) = both (both (eqb (length u) n) (both (leb 1 n) (leb n 6))) (sized us ns)

-- there are rows, with their lengths, and they rise: what the halving needs
abbrev pub ordered : List (List ℕ) → List ℕ → Bool
ordered us ns = both (leb 1 (length us)) (both (sized us ns) (rising us))

-- and each has its link
abbrev pub well_formed : List (List ℕ) → List ℕ → List (Option ℕ) → Bool
well_formed us ns js = both (ordered us ns) (linked us 0 us js)

-- ---- the definition's table

-- the rows as a table of bytes
abbrev pub rows_of : List (List ℕ) → List ℕ → List ℕ → Table
rows_of [] ns cs = []
rows_of (w ∷ ws) ns [] = []
rows_of (w ∷ ws) [] (c ∷ cs) = record { letters = []; class = c } ∷ rows_of ws [] cs
rows_of (w ∷ ws) (n ∷ ns) (c ∷ cs) = record { letters = take n w; class = c } ∷ rows_of ws ns cs

-- a table of letters in UTF-8
abbrev pub byte_row : Row → Row
byte_row k = record { letters = encode k.letters; class = k.class }

abbrev pub byte_table : Table → Table
byte_table [] = []
byte_table (k ∷ t) = byte_row k ∷ byte_table t

-- all letters are scalar values
abbrev pub AllScalars : Table → Type 0
AllScalars [] = Unit {0}
AllScalars (k ∷ t) = Scalars k.letters × AllScalars t

-- a test of a table of letters: they are below D800, and so scalar values
abbrev pub low : Word → Bool
low [] = true
low (c ∷ w) = both (leb c 0xD7FF) (low w)

abbrev pub plain : Table → Bool
plain [] = true
plain (k ∷ t) = both (low k.letters) (plain t)
