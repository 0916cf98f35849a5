-- What the main theorems beside demand 3 speak of: searches and tables, plain letters, letters that rows give, and a row that cuts in no word.
use Rattle.std.specs.Prelude.{◌≡◌, ◌⊎◌, Bool, true, not, List, [], ◌∷◌, ℕ, ◌≤◌, ◌<◌, leb, length, get_or}
use Rattle.std.proofs.Math.Option.{none}
use Rattle.definition.specs.Letters.{alef, beh, teh, kaf, heh}
use Rattle.definition.specs.Words.{Word, pick, both, every, same, begins_with, ends_with}
use Rattle.definition.specs.Tables.{Row, Table, A_0, A_1, A_2, A_3, A_4, A_5, A_6, A_7, A_8, A_9, A_11, A_12, A_13, A_14, A_15, A_16, A_17, A_18, A_19, A_20, A_21}
use Rattle.definition.specs.Search.{row_at, longest, taken}
use Rattle.definition.specs.Endings.{SuffixStep, verb_step1, verb_step2a, verb_step2b, verb_step2c, noun_step1b, noun_step2a, noun_step2b, noun_step2c1, noun_step2c2, noun_step3, suffix, Cut, Cutting}

-- ---- searches and tables

-- no row that matches is longer than r
abbrev pub Longest : (Word → Bool) → Table → ℕ → Type 0
Longest match t r = (i : ℕ) → i < length t → match (row_at t i).letters ≡ true → length (row_at t i).letters ≤ length (row_at t r).letters

-- r is the longest match: it matches, and no row that matches is longer; or no row matches, and it is the number of rows
abbrev pub LongestMatch : (Word → Bool) → Table → ℕ → Type 0
LongestMatch match t r =
    ((r < length t) × (match (row_at t r).letters ≡ true) × Longest match t r)
    ⊎ ((r ≡ length t) × ((i : ℕ) → i < length t → match (row_at t i).letters ≡ true → ⊥))

-- every row has a letter, and no two rows are the same
abbrev pub distinct : Table → Bool
distinct [] = true
distinct (k ∷ t) = both (leb 1 (length k.letters)) (both (every (λ (j : Row). not (same k.letters j.letters)) t) (distinct t))

-- all 21
abbrev pub all_tables : List Table
all_tables =
    A_0 ∷ A_1 ∷ A_2 ∷ A_3 ∷ A_4 ∷ A_5 ∷ A_6 ∷ A_7 ∷ A_8 ∷ A_9
    ∷ A_11 ∷ A_12 ∷ A_13 ∷ A_14 ∷ A_15 ∷ A_16 ∷ A_17 ∷ A_18 ∷ A_19 ∷ A_20 ∷ A_21 ∷ []

-- ---- plain letters

-- c is one of lo to hi
abbrev pub in_range : ℕ → ℕ → ℕ → Bool
in_range lo hi c = both (leb lo c) (leb c hi)

-- the letters 0621 to 063A and 0641 to 064A
unfoldable pub plain_letter : ℕ → Bool
plain_letter c = pick (in_range 0x621 0x63A c) true (in_range 0x641 0x64A c)

-- no letter of the row is plain
abbrev pub no_plain_key : Row → Bool
no_plain_key r = every (λ (c : ℕ). not (plain_letter c)) r.letters

-- ---- letters and rows

-- the letter c, or what its row's class gives
abbrev pub replaced : Table → List ℕ → ℕ → ℕ
replaced t letters c = get_or (c ∷ letters) (row_at t (longest (begins_with (c ∷ [])) t)).class c

-- ---- steps and rows that do not cut

-- the step takes no row
abbrev pub Idle : SuffixStep → Cutting → Type 0
Idle s v = taken (ends_with v.text) (suffix s) (length v.text) ≡ none

-- P holds of the step and the row of every cut
abbrev pub AllCuts : (SuffixStep → ℕ → Type 0) → List Cut → Type 0
AllCuts P [] = Unit {0}
AllCuts P (c ∷ cs) = P c.step c.row × AllCuts P cs

-- the number of the row 0646 0627 in A_18
abbrev pub noon_alef : ℕ
noon_alef = 8

-- a cut by another row or another step
abbrev pub NotNoonAlef : SuffixStep → ℕ → Type 0
NotNoonAlef verb_step1 r = Unit {0}
NotNoonAlef verb_step2a r = r ≡ noon_alef → ⊥
NotNoonAlef verb_step2b r = Unit {0}
NotNoonAlef verb_step2c r = Unit {0}
NotNoonAlef noun_step1b r = Unit {0}
NotNoonAlef noun_step2a r = Unit {0}
NotNoonAlef noun_step2b r = Unit {0}
NotNoonAlef noun_step2c1 r = Unit {0}
NotNoonAlef noun_step2c2 r = Unit {0}
NotNoonAlef noun_step3 r = Unit {0}

-- ---- a word of which two endings are cut: the first worked example
abbrev pub cut_word : Word
cut_word = kaf ∷ teh ∷ beh ∷ teh ∷ heh ∷ alef ∷ []
