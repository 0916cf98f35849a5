-- A word is a list of letters, each a number. What stands at the front and at the end of a word.
use Rattle.std.specs.Prelude.{ℕ, ◌-◌, Bool, true, false, List, [], ◌∷◌, eqb, length, take, drop}

abbrev pub Word : Type 0
Word = List ℕ

abbrev pub pick {ℓ} : {A : Type ℓ} → Bool → A → A → A
pick true a b = a
pick false a b = b

abbrev pub both : Bool → Bool → Bool
both true b = b
both false b = false

abbrev pub every {ℓ} : {A : Type ℓ} → (A → Bool) → List A → Bool
every p [] = true
every p (x ∷ xs) = both (p x) (every p xs)

unfoldable pub same : Word → Word → Bool
same [] [] = true
same [] (y ∷ ys) = false
same (x ∷ xs) [] = false
same (x ∷ xs) (y ∷ ys) = both (eqb x y) (same xs ys)

unfoldable pub begins_with : Word → Word → Bool
begins_with w key = same (take (length key) w) key

unfoldable pub ends_with : Word → Word → Bool
ends_with w key = same (drop (length w - length key) w) key
