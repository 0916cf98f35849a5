-- What it is to write a story on a page: which lines are added, and that there is room for them.
use Rattle.std.specs.Prelude.{ℕ, zero, suc, ◌+◌, ◌*◌, ◌<◌, ◌≤◌, ◌≡◌, true, eqb, List, [], ◌∷◌, ◌++◌, map, reverse, length, take, get_or, Option as Maybe, Some, None}
use Rattle.std.specs.List.{All}
use Rattle.definition.specs.Kind.{Kind}
use Rattle.definition.specs.Stem.{cutting}
use Rattle.definition.specs.Endings.{endings, verb_step1, verb_step2a, verb_step2b, verb_step2c, noun_step1b, noun_step2a, noun_step2b, noun_step2c1, noun_step2c2, noun_step3}
use Rattle.definition.specs.Fronts.{fronts, prefix_step1, prefix_step2, prefix_step3a_noun, prefix_step3b_noun, prefix_step3_verb, prefix_step4_verb}
use Rattle.definition.specs.Words.{Word, pick, every}
use Rattle.utf8.specs.Spelt.{Encodes}
use Rattle.history.specs.Steps.{Step, floating_mark, normalize_pre, ending, alef_maqsura, front, normalize_post_last, normalize_post_other, name, table_of, Deed, by, row_of, put}
use Rattle.history.specs.History.{row_for, is_key, keys_in, cut_deed, front_deed, maqsura_deeds, Change, counted, numbered}
use Rattle.history.specs.Laws.{Listed}
use Rattle.history.specs.Text.{plus, text}
use Rattle.arabic.specs.Changes.{suffix_number, prefix_number}
use Rattle.story.specs.Entry.{story_room}
use Rattle.story.specs.declared.page.Page.{Page}

-- what is written on the page
abbrev pub written : Page → List ℕ
written p = take p.len p.text

-- q is p with bs written behind
pub record Adds (p : Page) (bs : List ℕ) (q : Page) : Type 0 where
  pub text : written q ≡ written p ++ bs
  pub len : q.len ≡ p.len + length bs
  pub letters : q.letters ≡ p.letters

-- the + that stands before each letter of a row but the one at its byte 0
abbrev pub plus_before : ℕ → List ℕ
plus_before zero = []
plus_before (suc i) = plus ∷ []

-- ---- lines

-- how many letters there are behind the deeds, where there were n before them
unfoldable pub left_after : ℕ → List Deed → ℕ
left_after n [] = n
left_after n (d ∷ ds) = left_after (counted n d) ds

-- their lines
abbrev pub lines : ℕ → List Deed → List ℕ
lines n ds = text (numbered n ds)

-- q is p with the lines of the deeds written behind, and with the number of letters that they leave
pub record Tells (p : Page) (ds : List Deed) (q : Page) : Type 0 where
  pub text : written q ≡ written p ++ lines p.letters ds
  pub len : q.len ≡ p.len + length (lines p.letters ds)
  pub letters : q.letters ≡ left_after p.letters ds

-- their rows are listed, no number is above 255, and there is room on the page for their lines
pub record Fits (p : Page) (ds : List Deed) : Type 0 where
  pub listed : All Listed ds
  pub small : All (λ (c : Change). c.left ≤ 255) (numbered p.letters ds)
  pub room : p.len + length (lines p.letters ds) ≤ story_room

-- ---- one line

-- the step's name, the row's letters, and how many letters are put for them
pub record IsDeed (d : Deed) (step_name letters : List ℕ) (count : ℕ) : Type 0 where
  pub named : step_name ≡ name d.step
  pub row : Encodes letters (row_of d)
  pub puts : count ≡ length (put d)

-- ---- a line for each letter that is a key

-- each row of the step is one letter
abbrev pub OneLetter : Step → Type 0
OneLetter s = every (λ k. eqb (length k.letters) 1) (table_of s) ≡ true

-- how many letters the step puts for the letter c; none where c is no key
unfoldable pub puts_for : Step → ℕ → Maybe ℕ
puts_for s c = pick (is_key s c) (Some (length (put (by s (row_for s c))))) None

-- The text is that of the letters w, step_name is that of the step s, whose rows are single letters, and there is room on the page for a line for each key among them.
-- answers says what is answered for a letter.
pub record KeysOf (answers : ℕ → Maybe ℕ → Type 0) (step_name text : List ℕ) (p : Page) (s : Step) (w : Word) : Type 0 where
  pub one : OneLetter s
  pub puts : (c : ℕ) (r : Maybe ℕ) → answers c r → r ≡ puts_for s c
  pub named : step_name ≡ name s
  pub encodes : Encodes text w
  pub fits : Fits p (keys_in s w)

-- ---- lines for the changes that an environment has noted

-- the steps by their numbers, from 0
abbrev pub noted_steps : List Step
noted_steps =
    ending verb_step1 ∷ ending verb_step2a ∷ ending verb_step2b ∷ ending verb_step2c
    ∷ ending noun_step1b ∷ ending noun_step2a ∷ ending noun_step2b ∷ ending noun_step2c1 ∷ ending noun_step2c2 ∷ ending noun_step3
    ∷ front prefix_step1 ∷ front prefix_step2 ∷ front prefix_step3a_noun ∷ front prefix_step3b_noun ∷ front prefix_step3_verb ∷ front prefix_step4_verb ∷ []

unfoldable pub noted_step : ℕ → Step
noted_step n = get_or noted_steps n floating_mark

-- row is the number of a row of that step
abbrev pub InStep : ℕ → ℕ → Type 0
InStep n row = (n < 16) × (row < length (table_of (noted_step n)))

-- the environment notes the deed, of an ending or a front, as the number n
abbrev pub noted_by : Step → ℕ → ℕ → Type 0
noted_by floating_mark r n = ⊥
noted_by normalize_pre r n = ⊥
noted_by (ending s) r n = n ≡ 16 * suffix_number s + r
noted_by alef_maqsura r n = ⊥
noted_by (front s) r n = n ≡ 16 * prefix_number s + r
noted_by normalize_post_last r n = ⊥
noted_by normalize_post_other r n = ⊥

abbrev pub NotedAs : Deed → ℕ → Type 0
NotedAs d n = noted_by d.step d.row n

-- and each of them as its number
abbrev pub AllNoted : List Deed → List ℕ → Type 0
AllNoted [] [] = Unit {0}
AllNoted [] (n ∷ ns) = ⊥
AllNoted (d ∷ ds) [] = ⊥
AllNoted (d ∷ ds) (n ∷ ns) = NotedAs d n × AllNoted ds ns

-- ---- the deeds of items 3 and 4

-- of a normalised word n of kind k: the endings, and a last 0649
unfoldable pub ending_deeds : Kind → Word → List Deed
ending_deeds k n = map cut_deed (reverse (cutting k n).cuts) ++ maqsura_deeds (endings k n)

-- of the word n that item 3 leaves
unfoldable pub front_deeds : Kind → Word → List Deed
front_deeds k n = map front_deed (reverse (fronts k n).applied)
