-- The laws for index builders: normalising in blocks, and normalising or finishing again. Assumes nothing.
use mathlib.Core.Path.{◌≡◌, refl, sym, ap, ◌∙◌}
use mathlib.Core.Bool.{true}
use mathlib.Core.List.{List, [], ◌∷◌, ◌++◌, map, flatten, append_assoc}
use Prim.Native.Nat.{ℕ, ◌+◌, ◌-◌, ◌≤◌, ◌<◌}
use native.Mathlib.Omega.{arith}
use lib.Dec.{ltb}
use lib.ListN.{length, drop, get_or, length-append, length-drop}
use lib.Seq.{take_at, drop_at, drop-drop}
use borrow.Author.Tests.{lt-ltb, le-ltb, ltb-true, ltb-false}
use Rattle.std.specs.Prelude.{Ok, Err}
use Rattle.utf8.specs.Utf8.{Scalars, encode1, encode, first, filled, step, onto, run, well_formed}
use Rattle.utf8.proofs.Main.{main_well_formed}
use Rattle.utf8.proofs.Text.{encode-append, scalars-append}
use Rattle.definition.specs.Letters.{hamza, alef, beh}
use Rattle.definition.specs.Words.{Word, every, same, begins_with}
use Rattle.definition.specs.Tables.{A_0}
use Rattle.definition.specs.Search.{longer, longest}
use Rattle.definition.specs.Normal.{gives, listed_for, given, normal, normalise}
use Rattle.definition.specs.Finish.{last, other, finish}
use Rattle.definition.specs.Floating.{floating_marks, floating, unmarked, without_marks}
use Rattle.definition.proofs.Main.{main_unmarked_normalise_joined, main_unmarked_normalise_twice, main_finish_twice}
use Rattle.definition.proofs.Match.{both_0, both_1, by}
use Rattle.floating_marks.proofs.Sizes.{unmarked-scalars, unmarked-size}
use Rattle.arabic.proofs.Main.{main_grows, main_size}
use Rattle.arabic.proofs.Gives.{normalise-scalars}
use Rattle.arabic.proofs.FinishedLetter.{finish-scalars}
use Rattle.stemmer.specs.declared.outcome.BadWord.TheVariants.{TooLong}
use Rattle.stemmer.specs.declared.outcome.Refusal.TheVariants.{Bad, NoRoom}
use Rattle.stemmer.specs.Entries.{most_bytes, enough_room, code_of, letters, bytes_of, checked, fitting, answer, out_after}
use Rattle.stemmer.specs.Blocks.{out_of, written, behind, in_turn, Joins, Again, ligatures, alef_block, beh_block}
use Rattle.stemmer.proofs.Answers.{accepted, letters-encoded, formed-scalars, formed_spelling, short, formed, spelling, after, same_answer}

-- what the normalise entry makes of a word's letters
abbrev pub normalised : Word → Word
normalised = without_marks normalise

-- ---- two well-formed words joined
module _ (u v : List ℕ) (a : well_formed u ≡ true) (b : well_formed v ≡ true) where
  both-scalars : Scalars (letters u ++ letters v)
  both-scalars = scalars-append (letters u) (letters v) (formed-scalars u a) (formed-scalars v b)

  joined_spelling : u ++ v ≡ encode (letters u ++ letters v)
  joined_spelling = (λ i. formed_spelling u a i ++ formed_spelling v b i) ∙ sym (encode-append (letters u) (letters v))

  pub joined-formed : well_formed (u ++ v) ≡ true
  joined-formed = ap well_formed joined_spelling ∙ main_well_formed (letters u ++ letters v) both-scalars

  joined-letters : letters (u ++ v) ≡ letters u ++ letters v
  joined-letters = ap letters joined_spelling ∙ letters-encoded (letters u ++ letters v) both-scalars

  pub joined_bytes : bytes_of normalised (u ++ v) ≡ bytes_of normalised u ++ bytes_of normalised v
  unfolding bytes_of
  joined_bytes =
      ap (λ (w : Word). encode (normalised w)) joined-letters
      ∙ ap encode (main_unmarked_normalise_joined (letters u) (letters v))
      ∙ encode-append (normalised (letters u)) (normalised (letters v))

-- ---- two answers in turn

fits : (n room : ℕ) → n ≤ room → fitting n room ≡ Ok n
unfolding fitting
fits n room h = rw (le-ltb room n h) refl

fails : (n room : ℕ) → room < n → fitting n room ≡ Err NoRoom
unfolding fitting
fails n room h = rw (lt-ltb room n h) refl

by_room : (n room : ℕ) {P : Type 0} → (n ≤ room → P) → (room < n → P) → P
by_room n room f g = by (ltb room n) (λ t. g (ltb-true room n t)) (λ t. f (ltb-false room n t))

fitting_in_turn : (m n room : ℕ) → fitting (m + n) room ≡ in_turn (fitting m room) (λ (k : ℕ). fitting n (room - k))
fitting_in_turn m n room =
    by_room m room
    (λ h. by_room (m + n) room
    (λ k. rw (fits (m + n) room k, fits m room h, fits n (room - m) (omega arith)) refl)
    (λ k. rw (fails (m + n) room k, fits m room h, fails n (room - m) (omega arith)) refl))
    (λ h. rw (fails (m + n) room (omega arith), fails m room h) refl)

-- code 0 says that the result fits
room_for : (n room : ℕ) → code_of (fitting n room) ≡ 0 → n ≤ room
room_for n room z =
    by_room n room (λ h. h) (λ h. let e : code_of (fitting n room) ≡ 3 = ap code_of (fails n room h) in absurd (omega arith))

-- ---- an accepted word: its answer, and its output where the result fits
module _ (f : Word → Word) (word : List ℕ) (e : checked word ≡ Ok tt) where
  abbrev size : ℕ
  size = length (bytes_of f word)

  fitted : (room : ℕ) → answer f word room ≡ fitting size room
  fitted room = after f word room (Ok tt) e

  pub done : (room : ℕ) → size ≤ room → answer f word room ≡ Ok size
  done room h = fitted room ∙ fits size room h

  module _ (old : List ℕ) (h : size ≤ length old) where
    pub out-done : out_of f word old ≡ bytes_of f word ++ drop size old
    unfolding out_after
    out-done = rw (done (length old) h) refl

    pub written-done : written f word old ≡ bytes_of f word
    unfolding out_after
    written-done = rw (done (length old) h) (take_at (bytes_of f word) (drop size old) size refl)

    behind-done : behind f word old ≡ drop size old
    unfolding out_after
    behind-done = rw (done (length old) h) (drop_at (bytes_of f word) (drop size old) size refl)

-- ---- the law of two words joined
module _ (u v : List ℕ) (a : well_formed u ≡ true) (b : well_formed v ≡ true) (h : length u + length v ≤ most_bytes) where
  abbrev m : ℕ
  m = length (bytes_of normalised u)

  abbrev n : ℕ
  n = length (bytes_of normalised v)

  first-accepted : checked u ≡ Ok tt
  first-accepted = accepted u (omega arith) a

  second-accepted : checked v ≡ Ok tt
  second-accepted = accepted v (omega arith) b

  joined-accepted : checked (u ++ v) ≡ Ok tt
  joined-accepted = accepted (u ++ v) (omega (arith, length-append u v)) (joined-formed u v a b)

  joined-size : length (bytes_of normalised (u ++ v)) ≡ m + n
  joined-size = ap length (joined_bytes u v a b) ∙ length-append (bytes_of normalised u) (bytes_of normalised v)

  joined_fitted : (room : ℕ) → answer normalised (u ++ v) room ≡ fitting (m + n) room
  joined_fitted room = fitted normalised (u ++ v) joined-accepted room ∙ ap (λ (k : ℕ). fitting k room) joined-size

  joined-answers : (room : ℕ) → answer normalised (u ++ v) room ≡ in_turn (answer normalised u room) (λ (k : ℕ). answer normalised v (room - k))
  joined-answers room =
      joined_fitted room ∙ fitting_in_turn m n room
      ∙ (λ i. in_turn (sym (fitted normalised u first-accepted room) i) (λ (k : ℕ). sym (fitted normalised v second-accepted (room - k)) i))

  joined-outputs : (old : List ℕ) → code_of (answer normalised (u ++ v) (length old)) ≡ 0
      → out_of normalised (u ++ v) old ≡ written normalised u old ++ out_of normalised v (behind normalised u old)
  joined-outputs old z =
      let k : m + n ≤ length old = room_for (m + n) (length old) (ap code_of (sym (joined_fitted (length old))) ∙ z) in
      let x : List ℕ = bytes_of normalised u in
      let y : List ℕ = bytes_of normalised v in
      out-done normalised (u ++ v) joined-accepted old (omega (arith, joined-size))
      ∙ (λ i. joined_bytes u v a b i ++ drop (joined-size i) old)
      ∙ append_assoc x y (drop (m + n) old)
      ∙ ap (λ (r : List ℕ). x ++ (y ++ r)) (sym (drop-drop n m old))
      ∙ ap (λ (r : List ℕ). x ++ r) (sym (out-done normalised v second-accepted (drop m old) (omega (arith, length-drop m old))))
      ∙ (λ i. sym (written-done normalised u first-accepted old (omega arith)) i ++ out_of normalised v (sym (behind-done normalised u first-accepted old (omega arith)) i))

  pub joins : Joins normalised u v
  joins = record {
    formed = joined-formed u v a b;
    accepted = joined-accepted;
    bytes = joined_bytes u v a b;
    answers = joined-answers;
    outputs = joined-outputs;
  }

-- ---- any number of blocks
pub blocks : (bs : List (List ℕ)) → every well_formed bs ≡ true → (well_formed (flatten bs) ≡ true) × (bytes_of normalised (flatten bs) ≡ flatten (map (bytes_of normalised) bs))
unfolding bytes_of letters unmarked normalise encode run flatten
blocks [] e = (refl, refl)
blocks (b ∷ bs) e =
    let f : well_formed b ≡ true = both_0 (well_formed b) (every well_formed bs) e in
    let r = blocks bs (both_1 (well_formed b) (every well_formed bs) e) in
    (joined-formed b (flatten bs) f r.0, joined_bytes b (flatten bs) f r.0 ∙ ap (λ (x : List ℕ). bytes_of normalised b ++ x) r.1)

pub anywhere : (bs cs : List (List ℕ)) → every well_formed bs ≡ true → every well_formed cs ≡ true → flatten bs ≡ flatten cs
    → flatten (map (bytes_of normalised) bs) ≡ flatten (map (bytes_of normalised) cs)
anywhere bs cs e f q = sym (blocks bs e).1 ∙ ap (bytes_of normalised) q ∙ (blocks cs f).1

-- ---- the law of a result handed in again: f keeps scalar values, and what it leaves
module _ (f : Word → Word) (keeps : (w : Word) → Scalars w → Scalars (f w)) (twice : (w : Word) → f (f w) ≡ f w) where
  -- of any well-formed text, with no bound
  text-again : (text : List ℕ) → well_formed text ≡ true → (well_formed (bytes_of f text) ≡ true) × (bytes_of f (bytes_of f text) ≡ bytes_of f text)
  unfolding bytes_of
  text-again text e =
      let s : Scalars (f (letters text)) = keeps (letters text) (formed-scalars text e) in
      (main_well_formed (f (letters text)) s, ap (λ (w : Word). encode (f w)) (letters-encoded (f (letters text)) s) ∙ ap encode (twice (letters text)))

  again_law : (word : List ℕ) → checked word ≡ Ok tt → length (bytes_of f word) ≤ most_bytes → Again f word
  again_law word e h = record {
    accepted = taken;
    bytes = same_bytes;
    answers = same-answers;
    outputs = λ old. (λ i. out_after (same-answers (length old) i) (same_bytes i) old);
  }
    where
      taken : checked (bytes_of f word) ≡ Ok tt
      taken = accepted (bytes_of f word) h (text-again word (formed word e)).0

      same_bytes : bytes_of f (bytes_of f word) ≡ bytes_of f word
      same_bytes = (text-again word (formed word e)).1

      same-answers : (room : ℕ) → answer f (bytes_of f word) room ≡ answer f word room
      same-answers = same_answer f (bytes_of f word) word taken e same_bytes

pub normalised-scalars : (w : Word) → Scalars w → Scalars (normalised w)
normalised-scalars w s = normalise-scalars (unmarked w) (unmarked-scalars w s)

-- a normalised text, cut into well-formed blocks in any way, gives itself
pub blocks_again : (text : List ℕ) (bs : List (List ℕ)) → well_formed text ≡ true → every well_formed bs ≡ true → flatten bs ≡ bytes_of normalised text
    → flatten (map (bytes_of normalised) bs) ≡ bytes_of normalised text
blocks_again text bs e f q = sym (blocks bs f).1 ∙ ap (bytes_of normalised) q ∙ (text-again normalised normalised-scalars main_unmarked_normalise_twice text e).1

pub normalise-again : (word : List ℕ) → checked word ≡ Ok tt → length (bytes_of normalised word) ≤ most_bytes → Again normalised word
normalise-again = again_law normalised normalised-scalars main_unmarked_normalise_twice

pub finish_keeps : (word : List ℕ) → checked word ≡ Ok tt → length (bytes_of finish word) ≡ length word
unfolding bytes_of
finish_keeps word e = main_size (letters word) ∙ ap length (sym (spelling word e))

pub finish-again : (word : List ℕ) → checked word ≡ Ok tt → Again finish word
finish-again word e = again_law finish finish-scalars main_finish_twice word e (omega (arith, finish_keeps word e, short word e))

-- ---- the bounds are needed: nothing longer is accepted

pub joins_bound : (f : Word → Word) (u v : List ℕ) → Joins f u v → length u + length v ≤ most_bytes
joins_bound f u v j = omega (arith, short (u ++ v) j.accepted, length-append u v)

pub again_bound : (f : Word → Word) (word : List ℕ) → Again f word → length (bytes_of f word) ≤ most_bytes
again_bound f word a = short (bytes_of f word) a.accepted

-- how long a word must be for a normalised form of over 255 bytes
pub short_normalised : (word : List ℕ) → checked word ≡ Ok tt → length word < 192 → length (bytes_of normalised word) ≤ most_bytes
unfolding bytes_of
short_normalised word e h = omega (arith, main_grows (unmarked (letters word)), unmarked-size (letters word), ap length (spelling word e))

-- ---- the examples, by computing

pub grown : (length ligatures ≡ 192) × (answer normalised ligatures enough_room ≡ Ok 256) × (answer normalised (bytes_of normalised ligatures) enough_room ≡ Err (Bad TooLong))
unfolding answer checked fitting bytes_of letters encode encode1 run step first filled onto unmarked floating floating_marks normalise normal given gives listed_for longest longer begins_with same A_0
grown = (refl, refl, refl)

pub finished_apart : (answer finish (alef_block ++ beh_block) enough_room ≡ Ok 4) × (bytes_of finish (alef_block ++ beh_block) ≡ encode (alef ∷ beh ∷ []))
    × (bytes_of finish alef_block ++ bytes_of finish beh_block ≡ encode (hamza ∷ beh ∷ []))
unfolding answer checked fitting bytes_of letters encode encode1 run step first filled onto finish last other
finished_apart = (refl, refl, refl)

pub finish_no_joins : Joins finish alef_block beh_block → ⊥
unfolding encode encode1
finish_no_joins j = let e : ◌≡◌ {A = ℕ} 0xA7 0xA1 = ap (λ (x : List ℕ). get_or x 1 0) (sym finished_apart.1 ∙ j.bytes ∙ finished_apart.2) in omega arith
