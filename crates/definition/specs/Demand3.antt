-- Demand 3: what is owed of every stem, in document 01's words.
use Rattle.std.specs.Prelude.{◌≡◌, Bool, true, false, ◌⊎◌, List, [], ◌∷◌, ◌++◌, reverse, ℕ, suc, ◌+◌, ◌≤◌, ◌<◌, min, eqb, length, get_or}
use Rattle.std.proofs.Math.Option.{some}
use Rattle.definition.specs.Letters.{hamza, alef_madda, alef_hamza_above, waw_hamza, alef_hamza_below, yeh_hamza, alef, teh, noon, waw, alef_maksura, yeh}
use Rattle.definition.specs.Words.{Word, pick, ends_with}
use Rattle.definition.specs.Tables.{A_0, A_4}
use Rattle.definition.specs.Search.{row_at, least_letters, taken}
use Rattle.definition.specs.Tries.{Failed}
use Rattle.definition.specs.Kind.{kind}
use Rattle.definition.specs.Normal.{normalise}
use Rattle.definition.specs.Endings.{Cut, suffix, joined, endings}
use Rattle.definition.specs.Fronts.{PrefixStep, prefix_step1, prefix_step2, prefix_step3a_noun, prefix_step3b_noun, prefix_step3_verb, prefix_step4_verb, prefix, Applied, at, front_row, unreplaced}
use Rattle.definition.specs.Stem.{chain, back, applied, front, head_letter, without, run}

-- ---- the back

-- the ending c, cut from the normalised word n without the endings cs that were cut before it
pub record CutFrom (n : Word) (cs : List Cut) (c : Cut) : Type 0 where
  -- it is a row of its step's table
  pub listed : c.row < length (suffix c.step).table
  -- there are as many letters as item 3 asks for its step and class
  pub long : least_letters (suffix c.step).guards (row_at (suffix c.step).table c.row).class ≤ length (without n cs)
  -- it is the row that its step takes there
  pub taken : taken (ends_with (without n cs)) (suffix c.step) (length (without n cs)) ≡ some c.row

-- a chain in the order cut, where the endings before were cut already, the last one foremost
unfoldable pub CutInTurn : Word → List Cut → List Cut → Type 0
CutInTurn n before [] = Unit {0}
CutInTurn n before (c ∷ later) = CutFrom n before c × CutInTurn n (c ∷ before) later

-- ---- the front

-- The letters that a change puts into the front: with Step1 both letters of the row, the one taken and the head letter.
unfoldable pub to_front : PrefixStep → Applied → Word
to_front prefix_step1 m = front_row m
to_front prefix_step2 m = unreplaced m
to_front prefix_step3a_noun m = unreplaced m
to_front prefix_step3b_noun m = unreplaced m
to_front prefix_step3_verb m = unreplaced m
to_front prefix_step4_verb m = unreplaced m

-- of all changes, the last one foremost
unfoldable pub front_of : List Applied → Word
front_of [] = []
front_of (m ∷ ms) = front_of ms ++ to_front m.step m

-- a step's changes: none, or one by a row of its table
pub data AtMostOne (s : PrefixStep) : List Applied → Type 0 where
  unused : AtMostOne s []
  once : (r : ℕ) → r < length (prefix s).table → AtMostOne s (at s r ∷ [])

-- Step1's changes: none, and there is no head letter; or one by a row of A_4, with which the front begins,
-- and the head letter is one of the first two letters of the normalised word n
pub data HeadOf (n front head_letter : Word) : List Applied → Type 0 where
  no_head : head_letter ≡ [] → HeadOf n front head_letter []
  one_head : (r i : ℕ) (rest : Word) → r < length A_4 → i < 2 → length (row_at A_4 r).letters ≡ 2
      → front ≡ (row_at A_4 r).letters ++ rest → head_letter ≡ get_or n i 0 ∷ [] → HeadOf n front head_letter (at prefix_step1 r ∷ [])

-- Step3's changes: by Step3a_Noun, or by Step3b_Noun, or by Step3_Verb and then Step4_Verb
pub data Third : List Applied → Type 0 where
  third_a : {ms : List Applied} → AtMostOne prefix_step3a_noun ms → Third ms
  third_b : {ms : List Applied} → AtMostOne prefix_step3b_noun ms → Third ms
  third_verb : {ms ms' : List Applied} → AtMostOne prefix_step3_verb ms → AtMostOne prefix_step4_verb ms' → Third (ms' ++ ms)

-- the changes in item 4's order, the last one foremost
pub record InOrder (n front head_letter : Word) (ms : List Applied) : Type 0 where
  pub first : List Applied
  pub second : List Applied
  pub third : List Applied
  pub step1 : HeadOf n front head_letter first
  pub step2 : AtMostOne prefix_step2 second
  pub step3 : Third third
  pub all : ms ≡ third ++ (second ++ first)

-- ---- kept letters

abbrev pub number : PrefixStep → ℕ
number prefix_step1 = 0
number prefix_step2 = 1
number prefix_step3a_noun = 2
number prefix_step3b_noun = 3
number prefix_step3_verb = 4
number prefix_step4_verb = 5

-- whether a step is among the changes
unfoldable pub is_applied : PrefixStep → List Applied → Bool
is_applied s [] = false
is_applied s (m ∷ ms) = pick (eqb (number s) (number m.step)) true (is_applied s ms)

-- the place in the run of Step4_Verb's letter: the second where Step3_Verb has replaced, and else the first
unfoldable pub place : List Applied → ℕ
place ms = pick (is_applied prefix_step3_verb ms) 1 0

-- A kept letter c of the normalised word, and the letter d in its place in the stem. The cases exclude each other.
-- last: it is the last letter. failed: item 3 ended with Step3 failing. fourth: it stands at Step4_Verb's place, and Step4_Verb was applied.
pub data Change (last failed fourth : Type 0) (c d : ℕ) : Type 0 where
  -- item 5
  last_hamza : last → alef_madda ≤ c → c ≤ yeh_hamza → d ≡ hamza → Change last failed fourth c d
  other_alef : (last → ⊥) → (c ≡ alef_madda) ⊎ ((c ≡ alef_hamza_above) ⊎ (c ≡ alef_hamza_below)) → d ≡ alef → Change last failed fourth c d
  other_waw : (last → ⊥) → c ≡ waw_hamza → d ≡ waw → Change last failed fourth c d
  other_yeh : (last → ⊥) → c ≡ yeh_hamza → d ≡ yeh → Change last failed fourth c d
  -- the last 0649 of item 3
  last_yeh : last → failed → c ≡ alef_maksura → d ≡ yeh → Change last failed fourth c d
  -- Step4_Verb
  fourth_alef : fourth → (c ≡ teh) ⊎ ((c ≡ noon) ⊎ (c ≡ yeh)) → d ≡ alef → Change last failed fourth c d
  -- no listed change touches it
  stays : (last → failed → c ≡ alef_maksura → ⊥) → (fourth → ⊥) → (c < alef_madda) ⊎ (yeh_hamza < c) → d ≡ c → Change last failed fourth c d

-- the letter of the stem s at i, against that of the head letter and the run
abbrev pub ChangeAt : Word → Word → ℕ → Type 0
ChangeAt w s i =
    Change (suc i ≡ length s) (Failed (endings (kind w) (normalise w)))
    ((is_applied prefix_step4_verb (applied w) ≡ true) × (i ≡ length (head_letter w) + place (applied w)))
    (get_or (head_letter w ++ run w) i 0) (get_or s i 0)

-- no key of A_0
abbrev pub NoKey : ℕ → Type 0
NoKey c = (r : ℕ) → r < length A_0 → (row_at A_0 r).letters ≡ c ∷ [] → ⊥

-- none of 0622 to 0626
abbrev pub NoHamza : ℕ → Type 0
NoHamza c = (c < alef_madda) ⊎ (yeh_hamza < c)

-- neither a key of A_0 nor one of 0622 to 0626
pub record Plain (c : ℕ) : Type 0 where
  pub no_key : NoKey c
  pub no_hamza : NoHamza c

abbrev pub AllOf : (ℕ → Type 0) → Word → Type 0
AllOf P [] = Unit {0}
AllOf P (c ∷ w) = P c × AllOf P w

-- ---- demand 3 of the word w and its stem s
pub record Demand3 (w s : Word) : Type 0 where
  -- the normalised word is front, run and back
  pub parts : normalise w ≡ front w ++ (run w ++ back w)
  -- the front is what the changes of item 4 put into it, in their order, with at most one head letter
  pub fronts : front w ≡ front_of (applied w)
  pub order : InOrder (normalise w) (front w) (head_letter w) (applied w)
  -- at most five letters of the front go: all but the head letter
  pub gone : length (front w) ≤ length (head_letter w) + 5
  -- the back is the chain's rows joined, the last one cut foremost, and each was cut in its turn
  pub joins : back w ≡ joined (reverse (chain w))
  pub cut : CutInTurn (normalise w) [] (chain w)
  -- the stem is the head letter and the run, letter for letter, changed only as listed
  pub size : length s ≡ length (head_letter w ++ run w)
  pub changes : (i : ℕ) → i < length s → ChangeAt w s i
  -- it has from min(n, 2) to n letters, each of them plain
  pub least : min (length (normalise w)) 2 ≤ length s
  pub most : length s ≤ length (normalise w)
  pub plain : AllOf Plain s
