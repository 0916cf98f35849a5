-- The rows of A_0, by one computed test of the whole table: the order of its keys, and the row and the class of a letter.
-- Assumes nothing.
use mathlib.Core.Path.{◌≡◌, refl, sym, ap, ◌∙◌, subst}
use mathlib.Core.Bool.{Bool, true}
use mathlib.Core.Logic.{⊎_elim}
use mathlib.Core.List.{[], ◌∷◌, ◌++◌, map}
use Prim.Native.Nat.{ℕ, zero, suc, ◌*◌, ◌≤◌, ◌<◌}
use native.Mathlib.Omega.{arith}
use lib.Dec.{eqb, ltb, leb}
use lib.ListN.{length, get_or, length-append, get_or-map}
use borrow.Author.Tests.{eqb-true, ltb-true, leb-true}
use Rattle.utf8.specs.Utf8.{encode1, encode}
use Rattle.utf8.proofs.Text.{encode_one, encode-append}
use Rattle.definition.specs.Words.{Word, both, every, begins_with}
use Rattle.definition.specs.Tables.{Row, Table, A_0}
use Rattle.definition.specs.Search.{row_at}
use Rattle.definition.specs.Normal.{gives, listed_for, given, normal, normalise}
use Rattle.definition.proofs.Match.{both_0, both_1, begins_split, begins_of}
use Rattle.definition.proofs.Found.{longest-found, row-behind}
use Rattle.definition.proofs.Unique.{longest_at, longest_none}
use Rattle.arabic.specs.Rows.{key_of, keys, classes, row_of, class_of, right_row, right_rows, right_for, right_table}

-- ---- the one test, and its parts

pub right_table_lem : right_table ≡ true
unfolding A_0 given gives listed_for encode encode1
right_table_lem = refl

length_rows : length A_0 ≡ 161
length_rows = eqb-true (length A_0) 161 (both_0 (eqb (length A_0) 161) (both (right_rows 0 A_0) (every right_for gives)) right_table_lem)

rows_and_gives : both (right_rows 0 A_0) (every right_for gives) ≡ true
rows_and_gives = both_1 (eqb (length A_0) 161) (both (right_rows 0 A_0) (every right_for gives)) right_table_lem

right_rows_lem : right_rows 0 A_0 ≡ true
right_rows_lem = both_0 (right_rows 0 A_0) (every right_for gives) rows_and_gives

pub right_gives : every right_for gives ≡ true
right_gives = both_1 (right_rows 0 A_0) (every right_for gives) rows_and_gives

-- the test of a table, taken apart at its first row
module _ (p : ℕ) (r : Row) (t : Table) (e : right_rows p (r ∷ t) ≡ true) where
  first_above : p < key_of r
  first_above = ltb-true p (key_of r) (both_0 (ltb p (key_of r)) (both (right_row r) (right_rows (key_of r) t)) e)

  first_right : right_row r ≡ true
  first_right = both_0 (right_row r) (right_rows (key_of r) t) (both_1 (ltb p (key_of r)) (both (right_row r) (right_rows (key_of r) t)) e)

  rest_right : right_rows (key_of r) t ≡ true
  rest_right = both_1 (right_row r) (right_rows (key_of r) t) (both_1 (ltb p (key_of r)) (both (right_row r) (right_rows (key_of r) t)) e)

right_at : (p : ℕ) (t : Table) → right_rows p t ≡ true → (k : ℕ) → k < length t → right_row (row_at t k) ≡ true
right_at p [] e k h = absurd (omega arith)
right_at p (r ∷ t) e zero h = first_right p r t e
right_at p (r ∷ t) e (suc k) h = right_at (key_of r) t (rest_right p r t e) k (omega arith)

-- ---- the keys rise

above : (p : ℕ) (t : Table) → right_rows p t ≡ true → (k : ℕ) → k < length t → p < get_or (map key_of t) k 0
above p [] e k h = absurd (omega arith)
above p (r ∷ t) e zero h = first_above p r t e
above p (r ∷ t) e (suc k) h = omega (arith, first_above p r t e, above (key_of r) t (rest_right p r t e) k (omega arith))

rising : (p : ℕ) (t : Table) → right_rows p t ≡ true → (i j : ℕ) → i < j → j < length t → get_or (map key_of t) i 0 < get_or (map key_of t) j 0
rising p [] e i j h k = absurd (omega arith)
rising p (r ∷ t) e i zero h k = absurd (omega arith)
rising p (r ∷ t) e zero (suc j) h k = above (key_of r) t (rest_right p r t e) j (omega arith)
rising p (r ∷ t) e (suc i) (suc j) h k = rising (key_of r) t (rest_right p r t e) i j (omega arith) (omega arith)

pub keys_rise : (i j : ℕ) → i < j → j < 161 → get_or keys i 0 < get_or keys j 0
unfolding keys
keys_rise i j h k = rising 0 A_0 right_rows_lem i j h (omega (arith, length_rows))

-- ---- what the test says of a row

-- one letter; its class; how long what stands for it is
single_word : (w : Word) → length w ≡ 1 → w ≡ get_or w 0 0 ∷ []
single_word [] e = absurd (omega arith)
single_word (c ∷ []) e = refl
single_word (c ∷ d ∷ w) e = absurd (omega arith)

module _ (r : Row) (e : right_row r ≡ true) where
  abbrev grown : Bool
  grown = leb (3 * length (encode (given (key_of r) r.class))) (4 * length (encode1 (key_of r)))

  one_letter : r.letters ≡ key_of r ∷ []
  one_letter = single_word r.letters (eqb-true (length r.letters) 1 (both_0 (eqb (length r.letters) 1) (both (ltb 0 r.class) (both (ltb r.class 56) grown)) e))

  some_class : 0 < r.class
  some_class = ltb-true 0 r.class (both_0 (ltb 0 r.class) (both (ltb r.class 56) grown) (both_1 (eqb (length r.letters) 1) (both (ltb 0 r.class) (both (ltb r.class 56) grown)) e))

  classed : both (ltb r.class 56) grown ≡ true
  classed = both_1 (ltb 0 r.class) (both (ltb r.class 56) grown) (both_1 (eqb (length r.letters) 1) (both (ltb 0 r.class) (both (ltb r.class 56) grown)) e)

  small_class : r.class < 56
  small_class = ltb-true r.class 56 (both_0 (ltb r.class 56) grown classed)

  third-longer : 3 * length (encode (given (key_of r) r.class)) ≤ 4 * length (encode1 (key_of r))
  third-longer = leb-true _ _ (both_1 (ltb r.class 56) grown classed)

right_row_lem : (r : ℕ) → r < 161 → right_row (row_at A_0 r) ≡ true
right_row_lem r h = right_at 0 A_0 right_rows_lem r (omega (arith, length_rows))

abbrev none : Row
none = record { letters = []; class = 0 }

key_at : (r : ℕ) → key_of (row_at A_0 r) ≡ get_or keys r 0
unfolding keys
key_at r = sym (get_or-map key_of A_0 r none)

row-letters : (r : ℕ) → r < 161 → (row_at A_0 r).letters ≡ get_or keys r 0 ∷ []
row-letters r h = one_letter (row_at A_0 r) (right_row_lem r h) ∙ ap (λ (c : ℕ). c ∷ []) (key_at r)

-- ---- the row of a letter is the one with its key

head_same : (c d : ℕ) (w : Word) → c ∷ [] ≡ (d ∷ []) ++ w → d ≡ c
head_same c d w e = cc

matches_key : (c r : ℕ) → r < 161 → begins_with (c ∷ []) (row_at A_0 r).letters ≡ true → get_or keys r 0 ≡ c
matches_key c r h m =
    let k = get_or keys r 0 in
    head_same c k _ (begins_split (c ∷ []) (k ∷ []) (ap (begins_with (c ∷ [])) (sym (row-letters r h)) ∙ m))

key_matches : (c r : ℕ) → r < 161 → get_or keys r 0 ≡ c → begins_with (c ∷ []) (row_at A_0 r).letters ≡ true
key_matches c r h e =
    begins_of (c ∷ []) (row_at A_0 r).letters [] (ap (λ (x : ℕ). x ∷ []) (sym e) ∙ ap (λ (w : Word). w ++ []) (sym (row-letters r h)))

pub row_at_lem : (c r : ℕ) → r < 161 → get_or keys r 0 ≡ c → row_of c ≡ r
unfolding row_of
row_at_lem c r h e =
    longest_at (begins_with (c ∷ [])) A_0 r (omega (arith, length_rows)) (key_matches c r h e)
    (λ k l m. absurd (omega (arith, keys_rise k r l h, matches_key c k (omega arith) m)))
    (λ i l m. omega (arith, ap length (row-letters r h), ap length (row-letters i (omega (arith, length_rows)))))

pub row_none : (c : ℕ) → ((r : ℕ) → r < 161 → get_or keys r 0 ≡ c → ⊥) → row_of c ≡ 161
unfolding row_of
row_none c n =
    longest_none (begins_with (c ∷ [])) A_0 (λ r h m. n r (omega (arith, length_rows)) (matches_key c r (omega (arith, length_rows)) m))
    ∙ length_rows

-- ---- the class of a letter

-- a letter is the key of its row, or it has no row and class 0
by_row : (c : ℕ) {P : Type 0} → (row_of c < 161 → key_of (row_at A_0 (row_of c)) ≡ c → P) → (row_of c ≡ 161 → class_of c ≡ 0 → P) → P
unfolding row_of class_of
by_row c f g =
    ⊎_elim
    (λ (h : (row_of c < length A_0) × (begins_with (c ∷ []) (row_at A_0 (row_of c)).letters ≡ true)).
    let l : row_of c < 161 = omega (arith, length_rows) in f l (key_at (row_of c) ∙ matches_key c (row_of c) l h.1))
    (λ (e : row_of c ≡ length A_0). g (e ∙ length_rows) (ap (λ (r : ℕ). (row_at A_0 r).class) e ∙ row-behind A_0))
    (longest-found (begins_with (c ∷ [])) A_0)

pub class_none : (c : ℕ) → row_of c ≡ 161 → class_of c ≡ 0
class_none c r = by_row c (λ h e. absurd (omega arith)) (λ h e. e)

pub class_positive : (c : ℕ) → row_of c < 161 → 0 < class_of c
unfolding class_of
class_positive c h = some_class (row_at A_0 (row_of c)) (right_row_lem (row_of c) h)

pub class_at : (c : ℕ) → get_or classes (row_of c) 0 ≡ class_of c
unfolding classes class_of
class_at c = get_or-map (λ (r : Row). r.class) A_0 (row_of c) none

pub normal-class : (c : ℕ) → normal c ≡ given c (class_of c)
unfolding normal class_of row_of
normal-class c = refl

pub class_small : (c : ℕ) → class_of c < 56
unfolding class_of
class_small c = by_row c (λ h e. small_class (row_at A_0 (row_of c)) (right_row_lem (row_of c) h)) (λ h e. omega arith)

-- ---- what stands for a letter is longer by a third at most

pub kept : (c : ℕ) → given c 0 ≡ c ∷ []
unfolding given
kept c = refl

pub grows : (c : ℕ) → 3 * length (encode (normal c)) ≤ 4 * length (encode1 c)
unfolding class_of
grows c =
    rw (normal-class c)
    (by_row c
    (λ h e.
    subst (λ (x : ℕ). 3 * length (encode (given x (row_at A_0 (row_of c)).class)) ≤ 4 * length (encode1 x)) e (third-longer (row_at A_0 (row_of c)) (right_row_lem (row_of c) h)))
    (λ h e. rw (e, kept c, encode_one c) (omega arith)))

pub normalise_grows : (w : Word) → 3 * length (encode (normalise w)) ≤ 4 * length (encode w)
unfolding normalise encode
normalise_grows [] = omega arith
normalise_grows (c ∷ w) =
    omega (
      arith,
      grows c,
      normalise_grows w,
      ap length (encode-append (normal c) (normalise w)),
      length-append (encode (normal c)) (encode (normalise w)),
      length-append (encode1 c) (encode w),
    )
