-- A reader of texts of histories: it gives a history, or nothing where the bytes are no such text.
use Rattle.std.specs.Prelude.{ℕ, zero, suc, ◌+◌, ◌*◌, ◌-◌, Bool, List, [], ◌∷◌, ◌++◌, eqb, leb, ltb, length}
use Rattle.std.proofs.Math.Option.{Option, none, some}
use Rattle.definition.specs.Words.{Word, pick, both, same}
use Rattle.definition.specs.Tables.{Table}
use Rattle.definition.specs.Search.{longest}
use Rattle.history.specs.Steps.{Step, name, steps, table_of, by}
use Rattle.history.specs.History.{Change}
use Rattle.history.specs.Text.{space, plus, lf}

-- what was read and the bytes behind it, or nothing
pub data Read (A : Type 0) : Type 0 where
  got : A → List ℕ → Read A
  lost : Read A

module _ {A B : Type 0} where
  abbrev pub and_read : Read A → (A → List ℕ → Read B) → Read B
  and_read (got a t) f = f a t
  and_read lost f = lost

-- a fixed text in front
unfoldable pub fixed : List ℕ → List ℕ → Read (Unit {0})
fixed [] t = got tt t
fixed (a ∷ key) [] = lost
fixed (a ∷ key) (b ∷ t) = pick (eqb a b) (fixed key t) lost

-- a step's name, and a space behind it
abbrev pub or_next : Step → Read (Unit {0}) → Read Step → Read Step
or_next s (got u t) r = got s t
or_next s lost r = r

unfoldable pub step_in : List Step → List ℕ → Read Step
step_in [] t = lost
step_in (s ∷ ss) t = or_next s (fixed (name s ++ (space ∷ [])) t) (step_in ss t)

-- a hexadecimal digit's value; 16 for any other byte
abbrev pub value_of : ℕ → ℕ
value_of b =
    pick (both (leb 0x30 b) (leb b 0x39)) (b - 0x30)
    (pick (both (leb 0x41 b) (leb b 0x46)) (b - 0x37) 16)

abbrev pub all_digits : ℕ → ℕ → ℕ → ℕ → Bool
all_digits a b c d = both (ltb (value_of a) 16) (both (ltb (value_of b) 16) (both (ltb (value_of c) 16) (ltb (value_of d) 16)))

abbrev pub number4 : ℕ → ℕ → ℕ → ℕ → ℕ
number4 a b c d = ((value_of a * 16 + value_of b) * 16 + value_of c) * 16 + value_of d

abbrev pub in_front : ℕ → Read Word → Read Word
in_front c (got w t) = got (c ∷ w) t
in_front c lost = lost

-- letters joined by +, and a space behind them
unfoldable pub letters_in : List ℕ → Read Word
letters_in [] = lost
letters_in (a ∷ []) = lost
letters_in (a ∷ b ∷ []) = lost
letters_in (a ∷ b ∷ c ∷ []) = lost
letters_in (a ∷ b ∷ c ∷ d ∷ []) = lost
letters_in (a ∷ b ∷ c ∷ d ∷ e ∷ t) =
    pick (all_digits a b c d)
    (pick (eqb e plus) (in_front (number4 a b c d) (letters_in t)) (pick (eqb e space) (got (number4 a b c d ∷ []) t) lost))
    lost

-- a decimal number, of which n was read already, and LF behind it
unfoldable pub number_in : ℕ → List ℕ → Read ℕ
number_in n [] = lost
number_in n (b ∷ t) =
    pick (eqb b lf) (got n t)
    (pick (both (leb 0x30 b) (leb b 0x39)) (number_in (n * 10 + (b - 0x30)) t) lost)

-- the row of a table with just these letters
unfoldable pub row_with : Table → Word → ℕ
row_with t w = longest (same w) t

abbrev pub change_of : Step → Word → ℕ → List ℕ → Read Change
change_of s w n t = pick (ltb (row_with (table_of s) w) (length (table_of s))) (got (record { deed = by s (row_with (table_of s) w); left = n }) t) lost

unfoldable pub line_in : List ℕ → Read Change
line_in t =
    and_read (step_in steps t) (λ (s : Step) (t1 : List ℕ).
    and_read (letters_in t1) (λ (w : Word) (t2 : List ℕ).
    and_read (number_in 0 t2) (λ (n : ℕ) (t3 : List ℕ).
    change_of s w n t3)))

abbrev pub in_front_of : Change → Option (List Change) → Option (List Change)
in_front_of c none = none
in_front_of c (some cs) = some (c ∷ cs)

abbrev pub lines_after : Read Change → (List ℕ → Option (List Change)) → Option (List Change)
lines_after lost f = none
lines_after (got c t) f = in_front_of c (f t)

-- lines to the end, at most n of them
unfoldable pub lines_in : ℕ → List ℕ → Option (List Change)
lines_in zero [] = some []
lines_in zero (b ∷ t) = none
lines_in (suc n) [] = some []
lines_in (suc n) (b ∷ t) = lines_after (line_in (b ∷ t)) (lines_in n)

-- a line has a byte at least
unfoldable pub read : List ℕ → Option (List Change)
read t = lines_in (length t) t
