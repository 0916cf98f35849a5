-- A word and the same word without its floating marks have the same answers, and marks alone have an empty stem. Assumes nothing.
use mathlib.Core.Path.{◌≡◌, refl, sym, ap, ◌∙◌}
use mathlib.Core.Bool.{true}
use mathlib.Core.List.{List, []}
use Prim.Native.Nat.{ℕ, ◌<◌}
use native.Mathlib.Omega.{arith}
use lib.ListN.{length}
use Rattle.std.specs.Prelude.{Ok, Err}
use Rattle.utf8.specs.Utf8.{encode1, encode, first, filled, step, onto, run}
use Rattle.utf8.proofs.Main.{main_well_formed}
use Rattle.definition.specs.Words.{Word, every}
use Rattle.definition.specs.Kind.{OPEN, kind}
use Rattle.definition.specs.Normal.{normalise}
use Rattle.definition.specs.Stem.{stem, chain}
use Rattle.definition.specs.Floating.{floating_marks, floating, unmarked, without_marks}
use Rattle.definition.proofs.Main.{main_unmarked_same, main_marks_alone, main_number_below}
use Rattle.stemmer.specs.declared.outcome.BadWord.TheVariants.{TooLong}
use Rattle.stemmer.specs.declared.outcome.Refusal.TheVariants.{Bad}
use Rattle.stemmer.specs.Entries.{Answer, most_bytes, letters, bytes_of, checked, answer, out_after, part_after, with_endings, kind_after, kind_answer, stem_entry}
use Rattle.stemmer.specs.Blocks.{out_of}
use Rattle.stemmer.specs.Marks.{unmarked_bytes, SameUnmarked, NothingLeft, marks}
use Rattle.stemmer.proofs.Answers.{too_long, accepted, letters-encoded, same_answer, over_long, number, kind-after}
use Rattle.stemmer.proofs.Blocks.{done}
use Rattle.stemmer.proofs.Depends.{by_checks}
use Rattle.stemmer.proofs.Without.{without_scalars, without_short}

-- ---- an accepted word, and the same without its marks
module _ (word : List ℕ) (e : checked word ≡ Ok tt) where
  without-letters : letters (unmarked_bytes word) ≡ unmarked (letters word)
  unfolding bytes_of
  without-letters = letters-encoded (unmarked (letters word)) (without_scalars word e)

  without-accepted : checked (unmarked_bytes word) ≡ Ok tt
  unfolding bytes_of
  without-accepted = accepted (unmarked_bytes word) (without_short word e) (main_well_formed (unmarked (letters word)) (without_scalars word e))

  asked_same : {A : Type 0} (f : Word → A) → without_marks f (letters (unmarked_bytes word)) ≡ without_marks f (letters word)
  asked_same f = ap (without_marks f) without-letters ∙ main_unmarked_same f (letters word)

  bytes_same : (f : Word → Word) → bytes_of (without_marks f) (unmarked_bytes word) ≡ bytes_of (without_marks f) word
  unfolding bytes_of
  bytes_same f = ap encode (asked_same f)

  answers-same : (f : Word → Word) (room : ℕ) → answer (without_marks f) (unmarked_bytes word) room ≡ answer (without_marks f) word room
  answers-same f = same_answer (without_marks f) (unmarked_bytes word) word without-accepted e (bytes_same f)

  pub same-unmarked : SameUnmarked word
  same-unmarked = record {
    accepted = without-accepted;
    stems = by_checks (unmarked_bytes word) word (Ok tt) without-accepted e (λ z. (bytes_same stem, ap length (asked_same chain)));
    kinds = sym (kind-after (unmarked_bytes word) (Ok tt) without-accepted) ∙ ap (kind_after (Ok tt)) (asked_same kind) ∙ kind-after word (Ok tt) e;
    answers = answers-same normalise;
    outputs = λ old. (λ i. out_after (answers-same normalise (length old) i) (bytes_same normalise i) old);
  }

  -- ---- marks alone
  module _ (m : every floating (letters word) ≡ true) where
    -- f gives nothing
    module _ (f : Word → Word) (q : without_marks f (letters word) ≡ []) where
      no_bytes : bytes_of (without_marks f) word ≡ []
      unfolding bytes_of encode
      no_bytes = ap encode q

      no_size : length (bytes_of (without_marks f) word) ≡ 0
      no_size = ap length no_bytes

      empty_answer : (room : ℕ) → answer (without_marks f) word room ≡ Ok 0
      empty_answer room = done (without_marks f) word e room (omega (arith, no_size)) ∙ ap Ok no_size

      empty_output : (old : List ℕ) → out_of (without_marks f) word old ≡ old
      unfolding out_after
      empty_output old = λ i. out_after (empty_answer (length old) i) (no_bytes i) old

      empty_part : (old : List ℕ) → part_after (answer (without_marks f) word (length old)) (bytes_of (without_marks f) word) ≡ []
      unfolding part_after
      empty_part old = λ i. part_after (empty_answer (length old) i) (no_bytes i)

    nothing : (without_marks stem (letters word) ≡ []) × (without_marks normalise (letters word) ≡ []) × (without_marks kind (letters word) ≡ OPEN)
    nothing = main_marks_alone (letters word) m

    no_endings : number word ≡ 0
    no_endings = let z : length (without_marks normalise (letters word)) ≡ 0 = ap length nothing.1 in main_number_below (unmarked (letters word)) (omega arith)

    pub nothing_left : NothingLeft word
    nothing_left = record {
      stems = λ room. (λ i. with_endings (empty_answer stem nothing.0 room i) (no_endings i));
      stem_outputs = empty_output stem nothing.0;
      parts = empty_part stem nothing.0;
      answers = empty_answer normalise nothing.1;
      outputs = empty_output normalise nothing.1;
      kinds = sym (kind-after word (Ok tt) e) ∙ ap (kind_after (Ok tt)) nothing.2;
    }

-- ---- 85 marks, and 86

longest-marks : (length (marks 85) ≡ 255) × (checked (marks 85) ≡ Ok tt) × (every floating (letters (marks 85)) ≡ true)
unfolding checked letters encode encode1 run step first filled onto floating floating_marks
longest-marks = (refl, refl, refl)

pub marks_255 : (length (marks 85) ≡ 255) × NothingLeft (marks 85)
marks_255 = (longest-marks.0, nothing_left (marks 85) longest-marks.1 longest-marks.2)

too_many : length (marks 86) ≡ 258
unfolding encode encode1
too_many = refl

too_many-long : most_bytes < length (marks 86)
too_many-long = omega (arith, too_many)

pub marks_258 : (length (marks 86) ≡ 258) × ((room : ℕ) → stem_entry (marks 86) room ≡ Err (Bad TooLong)) × (kind_answer (marks 86) ≡ Err TooLong)
marks_258 = (
  too_many,
  λ room. ap (λ (a : Answer). with_endings a (number (marks 86))) (over_long (without_marks stem) (marks 86) room too_many-long),
  sym (kind-after (marks 86) (Err TooLong) (too_long (marks 86) too_many-long)),
)
