-- What index builders may rely on, in terms of what the entries answer: the laws of normalising and finishing, what a stem depends on, and floating marks, each closed by the file that proves it. Assumes nothing.
use mathlib.Core.Path.{◌≡◌, refl}
use mathlib.Core.Bool.{true}
use mathlib.Core.List.{List, [], ◌∷◌, ◌++◌, map, flatten}
use Prim.Native.Nat.{ℕ, ◌+◌, ◌≤◌, ◌<◌}
use lib.ListN.{length}
use Rattle.std.specs.Prelude.{Ok, Err}
use Rattle.utf8.specs.Utf8.{encode, well_formed}
use Rattle.definition.specs.Letters.{hamza, alef, beh}
use Rattle.definition.specs.Words.{Word, every}
use Rattle.definition.specs.Normal.{normalise}
use Rattle.definition.specs.Finish.{finish}
use Rattle.definition.specs.Floating.{floating, without_marks}
use Rattle.stemmer.specs.declared.outcome.BadWord.TheVariants.{TooLong}
use Rattle.stemmer.specs.declared.outcome.Refusal.TheVariants.{Bad}
use Rattle.stemmer.specs.Entries.{most_bytes, enough_room, code_of, letters, bytes_of, checked, answer, out_after, kind_answer, stem_entry}
use Rattle.stemmer.specs.Blocks.{out_of, written, Joins, Again, ligatures, alef_block, beh_block}
use Rattle.stemmer.specs.Depends.{SameKept, SameStem, fifth, marked, OneWordTwoKinds}
use Rattle.stemmer.specs.Marks.{SameUnmarked, NothingLeft, marks}
use Rattle.stemmer.proofs.Answers.{front, over_long}
use Rattle.stemmer.proofs.Blocks.{joins, blocks, anywhere, normalise-again, blocks_again, finish_keeps, finish-again, joins_bound, again_bound, short_normalised, grown, finished_apart, finish_no_joins}
use Rattle.stemmer.proofs.Depends.{kept-stem, same_kept, one_word_one_kind, one_word_two_kinds}
use Rattle.stemmer.proofs.Marks.{same-unmarked, nothing_left, marks_255, marks_258}

-- the output afterwards is what the contracts of the entries say
pub main_out : (f : Word → Word) (word old : List ℕ) → out_of f word old ≡ out_after (answer f word (length old)) (bytes_of f word) old
main_out f word old = refl

-- after code 0 the bytes in front of the output, as many as the answer counts, are the result
pub main_written : (f : Word → Word) (word old : List ℕ) → code_of (answer f word (length old)) ≡ 0 → written f word old ≡ bytes_of f word
main_written f word old = front f word old (answer f word (length old)) refl

-- ---- blocks

-- two well-formed words, of at most 255 bytes together, joined: their normalised forms joined
pub main_joined : (u v : List ℕ) → well_formed u ≡ true → well_formed v ≡ true → length u + length v ≤ most_bytes → Joins (without_marks normalise) u v
main_joined = joins

-- any number of well-formed blocks: joined they are well formed, and their normalised forms joined are that of the text, however long it is
pub main_blocks : (bs : List (List ℕ)) → every well_formed bs ≡ true → (well_formed (flatten bs) ≡ true) × (bytes_of (without_marks normalise) (flatten bs) ≡ flatten (map (bytes_of (without_marks normalise)) bs))
main_blocks = blocks

-- so what the blocks of a text give, joined, does not depend on where it was cut
pub main_anywhere : (bs cs : List (List ℕ)) → every well_formed bs ≡ true → every well_formed cs ≡ true → flatten bs ≡ flatten cs
    → flatten (map (bytes_of (without_marks normalise)) bs) ≡ flatten (map (bytes_of (without_marks normalise)) cs)
main_anywhere = anywhere

-- ---- once more

-- an accepted word whose normalised form has at most 255 bytes: normalised again it is the same
pub main_again : (word : List ℕ) → checked word ≡ Ok tt → length (bytes_of (without_marks normalise) word) ≤ most_bytes → Again (without_marks normalise) word
main_again = normalise-again

-- a normalised text of any length, cut into well-formed blocks in any way: normalised again it is the same
pub main_blocks_again : (text : List ℕ) (bs : List (List ℕ)) → well_formed text ≡ true → every well_formed bs ≡ true → flatten bs ≡ bytes_of (without_marks normalise) text
    → flatten (map (bytes_of (without_marks normalise)) bs) ≡ bytes_of (without_marks normalise) text
main_blocks_again = blocks_again

-- every accepted word: finished it has as many bytes, and finished again it is the same
pub main_finish_size : (word : List ℕ) → checked word ≡ Ok tt → length (bytes_of finish word) ≡ length word
main_finish_size = finish_keeps

pub main_finish_again : (word : List ℕ) → checked word ≡ Ok tt → Again finish word
main_finish_again = finish-again

-- ---- the bounds are needed for the answers

-- a longer word is refused with code 1, whatever is asked and lent: so what is said of answers holds within the bounds alone
pub main_too_long : (f : Word → Word) (word : List ℕ) (room : ℕ) → most_bytes < length word → answer f word room ≡ Err (Bad TooLong)
main_too_long = over_long

pub main_joined_bound : (f : Word → Word) (u v : List ℕ) → Joins f u v → length u + length v ≤ most_bytes
main_joined_bound = joins_bound

pub main_again_bound : (f : Word → Word) (word : List ℕ) → Again f word → length (bytes_of f word) ≤ most_bytes
main_again_bound = again_bound

-- 64 ligatures have 192 bytes; normalised they have 256, which are refused
pub main_ligatures : (length ligatures ≡ 192) × (answer (without_marks normalise) ligatures enough_room ≡ Ok 256) × (answer (without_marks normalise) (bytes_of (without_marks normalise) ligatures) enough_room ≡ Err (Bad TooLong))
main_ligatures = grown

-- and no shorter word becomes so long
pub main_short : (word : List ℕ) → checked word ≡ Ok tt → length word < 192 → length (bytes_of (without_marks normalise) word) ≤ most_bytes
main_short = short_normalised

-- ---- finishing has no law of two words joined

-- 0623 and 0628 finished together, and finished each: the last letter of the first changes in another way
pub main_finish_apart : (answer finish (alef_block ++ beh_block) enough_room ≡ Ok 4) × (bytes_of finish (alef_block ++ beh_block) ≡ encode (alef ∷ beh ∷ []))
    × (bytes_of finish alef_block ++ bytes_of finish beh_block ≡ encode (hamza ∷ beh ∷ []))
main_finish_apart = finished_apart

pub main_finish_not_joined : Joins finish alef_block beh_block → ⊥
main_finish_not_joined = finish_no_joins

-- ---- what an index may keep in place of the typed word

-- two strings of bytes for which normalise, with room for every result, has written the same, and kind has answered the same, have the same answers of the stem entries
pub main_depends : (u v old old' : List ℕ) → SameKept u v old old' → SameStem u v
main_depends = kept-stem

-- equal answers and outputs of normalise, and equal answers of kind, are enough for it; and two spellings of one word meet it
pub main_kept : (u v old : List ℕ) → enough_room ≤ length old → answer (without_marks normalise) u (length old) ≡ answer (without_marks normalise) v (length old)
    → out_of (without_marks normalise) u old ≡ out_of (without_marks normalise) v old → kind_answer u ≡ kind_answer v → SameKept u v old old
main_kept = same_kept

pub main_spellings : (old : List ℕ) → enough_room ≤ length old → SameKept fifth marked old old
main_spellings = one_word_one_kind

-- without the kind it does not hold: document 01's fifth and sixth words
pub main_kind_needed : (old : List ℕ) → enough_room ≤ length old → OneWordTwoKinds old
main_kind_needed = one_word_two_kinds

-- ---- floating marks (request A5)

-- an accepted word, and the same word without its marks: the same answers and outputs of the stem entries, kind and normalise
pub main_unmarked : (word : List ℕ) → checked word ≡ Ok tt → SameUnmarked word
main_unmarked = same-unmarked

-- an accepted word of marks alone: an empty stem and normalised form, and the open kind
pub main_marks_alone : (word : List ℕ) → checked word ≡ Ok tt → every floating (letters word) ≡ true → NothingLeft word
main_marks_alone = nothing_left

-- the 255 bytes are counted with the marks: 85 marks are such a word, and 86 marks are refused
pub main_marks_255 : (length (marks 85) ≡ 255) × NothingLeft (marks 85)
main_marks_255 = marks_255

pub main_marks_258 : (length (marks 86) ≡ 258) × ((room : ℕ) → stem_entry (marks 86) room ≡ Err (Bad TooLong)) × (kind_answer (marks 86) ≡ Err TooLong)
main_marks_258 = marks_258
