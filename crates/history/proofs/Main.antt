-- What is shown of histories and their texts: the main theorems of this crate, each closed by the file that proves it. Assumes nothing.
use mathlib.Core.Path.{◌≡◌, ap, ◌∙◌}
use mathlib.Core.Bool.{false}
use mathlib.Core.List.{List, ◌∷◌, ◌++◌, map, reverse}
use mathlib.Core.Option.{some}
use Prim.Native.Nat.{ℕ, ◌+◌, ◌*◌, ◌^◌, ◌≤◌, ◌<◌}
use native.Mathlib.Omega.{arith}
use lib.ListN.{length, replicate}
use Rattle.std.specs.List.{All, Contains}
use Rattle.std.proofs.lemmas.List.Elements.{All-weaker}
use Rattle.utf8.specs.Utf8.{encode}
use Rattle.definition.specs.Words.{Word, same}
use Rattle.definition.specs.Stem.{stem, chain, applied}
use Rattle.definition.specs.Floating.{without_marks}
use Rattle.history.specs.Steps.{Step, floating_mark, name, steps, table_of, Deed, by, row_of, put}
use Rattle.history.specs.History.{whole, start, play_all, keys_in, deeds, Change, told, history, numbered}
use Rattle.history.specs.Text.{space, text, story}
use Rattle.history.specs.Reader.{read}
use Rattle.history.specs.Laws.{Listed, Readable, InPlace, cuts_of, fronts_of}
use Rattle.history.specs.Examples.{story_computed, twelve, worked, others}
use Rattle.history.proofs.Examples.{examples_right}
use Rattle.history.proofs.Rows.{in_steps, row_changes}
use Rattle.history.proofs.Reading.{name_tells, reads, one_text}
use Rattle.history.proofs.Ascii.{story_ascii}
use Rattle.history.proofs.Playing.{in_place_listed, told_counted, told_deeds}
use Rattle.history.proofs.Playback.{plays, marked, marked_story}
use Rattle.history.proofs.Parts.{cuts_are_chain, fronts_are_applied}
use Rattle.history.proofs.Lengths.{history_readable, history_short, story_length}

-- ---- the text of a history

-- the history of a word is read back from its story: the words that the entries take have 255 bytes at most
pub main_reads : (w : Word) → length (encode w) < 10 ^ 64 → read (story w) ≡ some (history w)
unfolding story
main_reads w h = reads (history w) (history_readable w h)

-- so is any history whose rows are listed in their steps' tables, with numbers that `decimal` writes whole
pub main_reads_any : (h : List Change) → All Readable h → read (text h) ≡ some h
main_reads_any = reads

-- two such histories with one text are one
pub main_one_text : (g h : List Change) → All Readable g → All Readable h → text g ≡ text h → g ≡ h
main_one_text = one_text

-- a story has bytes below 128 alone
pub main_ascii : (w : Word) → All (λ (b : ℕ). b < 128) (story w)
main_ascii = story_ascii

-- the story of an accepted word has 5937 bytes at most
pub main_length : (w : Word) → length (encode w) ≤ 255 → length (story w) ≤ 23 * length (encode w) + 72
main_length w h = omega (arith, story_length w (omega arith))

-- the longest story known: 255 times 0021
pub main_longest : length (story (replicate 255 0x21)) ≡ 5755
main_longest = examples_right.3

-- no number is above the number of the word's bytes: 255 for an accepted word
pub main_short : (w : Word) → All (λ (c : Change). c.left ≤ length (encode w)) (history w)
main_short = history_short

-- ---- what a history has

-- its changes are the deeds, of which the theorems below speak
pub main_deeds : (w : Word) → map (λ (c : Change). c.deed) (history w) ≡ deeds w
unfolding history
main_deeds w = told_deeds (start w) (deeds w)

-- main_plays, main_in_place, main_chain and main_fronts together say that no change is missing, and none invented

-- playing its changes on the typed letters gives the stem
pub main_plays : (w : Word) → whole (play_all (deeds w) (start w)) ≡ without_marks stem w
main_plays w = let p = plays w in ap whole p.1.makes ∙ p.2

-- each change finds its row in the word that the changes before it leave, and puts what replaces it in its place
pub main_in_place : (w : Word) → InPlace (start w) (deeds w)
main_in_place w = (plays w).1.places

-- so its numbers follow by counting: each change takes its row's letters, and adds those that it puts
pub main_counted : (w : Word) → history w ≡ numbered (length w) (deeds w)
unfolding history
main_counted w = told_counted (start w) (deeds w) (plays w).1.places

-- its endings are the chain, in the order cut
pub main_chain : (w : Word) → cuts_of (deeds w) ≡ without_marks chain w
main_chain = cuts_are_chain

-- its fronts are those that item 4 applies, in their order
pub main_fronts : (w : Word) → fronts_of (deeds w) ≡ reverse (without_marks applied w)
main_fronts = fronts_are_applied

-- the history of a word is what its floating marks have, and then the history of the word without them
pub main_marked : (w : Word) → history w ≡ told (start w) (keys_in floating_mark w) ++ without_marks history w
main_marked = marked

-- so its story has their lines, and then the story of the word without them
pub main_marked_story : (w : Word) → story w ≡ text (told (start w) (keys_in floating_mark w)) ++ without_marks story w
main_marked_story = marked_story

-- ---- steps and rows

-- no row of a step is put back as it was
pub main_changes : (s : Step) (r : ℕ) → r < length (table_of s) → same (row_of (by s r)) (put (by s r)) ≡ false
main_changes s r = row_changes (by s r)

-- so every change of a history changes letters
pub main_all_change : (w : Word) → All (λ (d : Deed). same (row_of d) (put d) ≡ false) (deeds w)
main_all_change w = All-weaker Listed (λ (d : Deed). same (row_of d) (put d) ≡ false) row_changes (deeds w) (in_place_listed (start w) (deeds w) (plays w).1.places)

-- the list of steps has every step, so that the reader knows all names
pub main_steps : (s : Step) → Contains steps s
main_steps = in_steps

-- and a name with the space behind it says which step it is
pub main_names : (s t : Step) (a b : List ℕ) → name s ++ (space ∷ a) ≡ name t ++ (space ∷ b) → s ≡ t
main_names = name_tells

-- ---- samples

-- document 01's twelve words
pub main_twelve : map story_computed twelve ≡ twelve
main_twelve = examples_right.0

-- the words that docs/ORDER.md works
pub main_worked : map story_computed worked ≡ worked
main_worked = examples_right.1

-- words for the steps that these leave out, floating marks, and the order of items 3 to 5
pub main_others : map story_computed others ≡ others
main_others = examples_right.2
