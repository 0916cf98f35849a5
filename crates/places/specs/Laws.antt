-- What is owed of the places of a stem.
use Rattle.std.specs.Prelude.{ℕ, ◌+◌, ◌-◌, ◌≤◌, ◌<◌, ◌≡◌, false, ltb, List, [], ◌∷◌, ◌++◌, length, get_or}
use Rattle.definition.specs.Letters.{alef_hamza_above, waw_hamza}
use Rattle.definition.specs.Words.{Word, pick, begins_with}
use Rattle.definition.specs.Normal.{normal, normalise}
use Rattle.definition.specs.Stem.{front, head_letter, run}
use Rattle.definition.specs.Floating.{floating, unmarked, without_marks}
use Rattle.definition.specs.Demand3.{AllOf, ChangeAt}
use Rattle.utf8.specs.Utf8.{encode}

-- no place is smaller than one before it
unfoldable pub NeverFall : List ℕ → Type 0
NeverFall [] = Unit {0}
NeverFall (p ∷ ps) = AllOf (λ (q : ℕ). p ≤ q) ps × NeverFall ps

-- In the word w as typed a letter that is no floating mark begins at the byte p, and gives the normalised letter k, counted from 0.
pub record Origin (w : Word) (k p : ℕ) : Type 0 where
  -- the typed letter, with those before and behind it
  pub before : Word
  pub letter : ℕ
  pub behind : Word
  pub typed : w ≡ before ++ (letter ∷ behind)
  pub place : p ≡ length (encode before)
  pub no_mark : floating letter ≡ false
  -- which of the letters that normalising gives for it, behind those that it gives for the letters before
  pub part : ℕ
  pub inside : part < length (normal letter)
  pub at : k ≡ length (without_marks normalise before) + part

-- Of a word w with no marks: which of the normalised letters, from 0, is the letter i of the stem before the changes that demand 3 lists.
-- The head letter is the second of two that become one, but of 0623 0624 the first; behind it comes the run, which stands behind the front.
unfoldable pub kept_letter : Word → ℕ → ℕ
kept_letter w i = pick (ltb i (length (head_letter w))) (pick (begins_with (front w) (alef_hamza_above ∷ waw_hamza ∷ [])) 0 1) (length (front w) + (i - length (head_letter w)))

-- of the typed word w: its stem s, and a place for each letter of it
pub record Placed (w s : Word) (ps : List ℕ) : Type 0 where
  -- as many places as letters
  pub size : length ps ≡ length s
  -- they never fall
  pub rise : NeverFall ps
  -- each is the place of the typed letter that gives the normalised letter which the stem keeps there,
  pub origin : (i : ℕ) → i < length s → Origin w (kept_letter (unmarked w) i) (get_or ps i 0)
  -- which is a letter of head letter and run,
  pub kept : (i : ℕ) → i < length s → get_or (without_marks head_letter w ++ without_marks run w) i 0 ≡ get_or (without_marks normalise w) (kept_letter (unmarked w) i) 0
  -- and in the stem it is changed only as demand 3 lists.
  pub changes : (i : ℕ) → i < length s → ChangeAt (unmarked w) s i
