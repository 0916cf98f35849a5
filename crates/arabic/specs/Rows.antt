-- A_0 in columns: the keys, the classes, and what each class gives. The constants of the code are these lists. Last the test of the table.
use Rattle.std.specs.Prelude.{ℕ, zero, suc, ◌*◌, Bool, true, List, [], ◌∷◌, map, eqb, ltb, leb, length, get_or, Option, Some, None}
use Rattle.definition.specs.Words.{Word, both, every, begins_with}
use Rattle.definition.specs.Tables.{Row, Table, A_0}
use Rattle.definition.specs.Search.{row_at, longest}
use Rattle.definition.specs.Normal.{gives, listed_for, given}
use Rattle.utf8.specs.Utf8.{encode1, encode}

-- the letter of a row
abbrev pub key_of : Row → ℕ
key_of r = get_or r.letters 0 0

-- the letters of the rows
unfoldable pub keys : List ℕ
keys = map key_of A_0

-- the classes of the rows
unfoldable pub classes : List ℕ
classes = map (λ (r : Row). r.class) A_0

-- the row of the letter c, and the number of rows if there is none
unfoldable pub row_of : ℕ → ℕ
row_of c = longest (begins_with (c ∷ [])) A_0

-- the class of the letter c, and 0 if it has no row
unfoldable pub class_of : ℕ → ℕ
class_of c = (row_at A_0 (row_of c)).class

-- a class as the code has it: none for class 0
abbrev pub listed : ℕ → Option ℕ
listed zero = None
listed (suc k) = Some (suc k)

-- what n classes give, from class k on, each in UTF-8
abbrev pub gives_from : ℕ → ℕ → List (List ℕ)
gives_from zero k = []
gives_from (suc n) k = encode (listed_for gives k) ∷ gives_from n (suc k)

-- what the classes 0 to 55 give
unfoldable pub all_gives : List (List ℕ)
all_gives = gives_from 56 0

-- the bytes of what stands for a letter with this class and these bytes
abbrev pub given_bytes : Option ℕ → List ℕ → List ℕ
given_bytes None letter = letter
given_bytes (Some k) letter = get_or all_gives k []

-- ---- the test of A_0, all of its rows and what all of its classes give

-- a row of one letter, of a class from 1 to 55, for which stands what is longer by a third of the letter's bytes at most
abbrev pub right_row : Row → Bool
right_row r =
    both (eqb (length r.letters) 1)
    (both (ltb 0 r.class)
    (both (ltb r.class 56) (leb (3 * length (encode (given (key_of r) r.class))) (4 * length (encode1 (key_of r))))))

-- right rows whose keys rise, from above p on
abbrev pub right_rows : ℕ → Table → Bool
right_rows p [] = true
right_rows p (r ∷ t) = both (ltb p (key_of r)) (both (right_row r) (right_rows (key_of r) t))

-- at most two letters, each from 1 to FFF
abbrev pub right_letters : Word → Bool
right_letters w = both (leb (length w) 2) (every (λ (c : ℕ). both (ltb 0 c) (ltb c 0x1000)) w)

abbrev pub right_for : Row → Bool
right_for r = right_letters r.letters

abbrev pub right_table : Bool
right_table = both (eqb (length A_0) 161) (both (right_rows 0 A_0) (every right_for gives))
