-- The line that answers a word, by the answer of the stem entry; an overlong word is answered by its first 256 bytes. Assumes nothing.
use mathlib.Core.Path.{◌≡◌, refl, sym, ap, ◌∙◌}
use mathlib.Core.Bool.{Bool, true, false}
use mathlib.Core.List.{List, [], ◌∷◌, ◌++◌}
use Prim.Native.Nat.{ℕ, ◌<◌}
use native.Mathlib.Omega.{arith}
use lib.Dec.{ltb}
use lib.ListN.{length, take}
use lib.Seq.{take_all, length-take-le}
use borrow.Author.Tests.{ne_eqb}
use Rattle.definition.specs.Words.{pick}
use Rattle.definition.proofs.Match.{by_le}
use Rattle.std.specs.Prelude.{Result, Ok, Err}
use Rattle.stemmer.specs.declared.outcome.BadWord.{BadWord}
use Rattle.stemmer.specs.declared.outcome.BadWord.TheVariants.{TooLong, NotWellFormed}
use Rattle.stemmer.specs.declared.outcome.Refusal.{Refusal}
use Rattle.stemmer.specs.declared.outcome.Refusal.TheVariants.{NoRoom}
use Rattle.stemmer.specs.Entries.{most_bytes, code_of, refusal_code, checked, after_checks, fitting, answer, stem_bytes, stem_answer}
use Rattle.stemmer.proofs.Answers.{too_long, refused_code}
use Rattle.lines.specs.Plain.{line_feed}
use Rattle.lines.specs.Machine.{kept_bytes, ByKept}
use Rattle.lines.specs.Refusals.{refusal, text_after}
use Rattle.lines.specs.Stems.{answer_line, stem_room}
use Rattle.lines.specs.Facts.{shown}
use Rattle.lines.proofs.Room.{never_three}

-- the checks as an answer, and the two of them that a line knows
shown_by : (k : Result (Unit {0}) BadWord) (d : Bool) (m : ℕ) (bs : List ℕ) → (code_of (after_checks k (pick d (Err NoRoom) (Ok m))) ≡ 3 → ⊥)
    → text_after k bs ≡ shown (after_checks k (pick d (Err NoRoom) (Ok m))) bs
unfolding shown
shown_by (Err TooLong) d m bs n = refl
shown_by (Err NotWellFormed) d m bs n = refl
shown_by (Ok u) true m bs n = absurd (n refl)
shown_by (Ok u) false m bs n = refl

-- an answer of the stem entry with room for every stem is the line's
pub line_answer : (w : List ℕ) → answer_line w ≡ shown (stem_answer w stem_room) (stem_bytes w) ++ line_feed ∷ []
unfolding answer_line answer fitting
line_answer w =
    ap (λ (t : List ℕ). t ++ line_feed ∷ [])
    (shown_by (checked w) (ltb stem_room (length (stem_bytes w))) (length (stem_bytes w)) (stem_bytes w) (never_three w))

pub line_done : (w : List ℕ) (n : ℕ) → stem_answer w stem_room ≡ Ok n → answer_line w ≡ stem_bytes w ++ line_feed ∷ []
unfolding shown
line_done w n e = line_answer w ∙ rw e

pub line_refused : (w : List ℕ) (r : Refusal) → stem_answer w stem_room ≡ Err r → answer_line w ≡ refusal (refusal_code r) ++ line_feed ∷ []
unfolding shown
line_refused w r e = line_answer w ∙ rw e (simp (ne_eqb (refusal_code r) 0 (refused_code r)))

-- ---- any text behind the checks, and what ends it
module _ (text : List ℕ → List ℕ) (end : List ℕ) where
  -- an overlong line is answered by `?1`
  pub overlong : (w : List ℕ) → most_bytes < length w → text_after (checked w) (text w) ++ end ≡ refusal 1 ++ end
  overlong w h = rw (too_long w h) refl

  -- so the bytes that are kept of a line have its answer
  pub kept_enough : ByKept (λ w. text_after (checked w) (text w) ++ end)
  kept_enough w = by_le (length w) kept_bytes
      (λ h. ap (λ (l : List ℕ). text_after (checked l) (text l) ++ end) (take_all kept_bytes w h))
      (λ h. overlong (take kept_bytes w) (omega (arith, length-take-le kept_bytes w (omega arith))) ∙ sym (overlong w (omega arith)))

pub line_long : (w : List ℕ) → most_bytes < length w → answer_line w ≡ refusal 1 ++ line_feed ∷ []
unfolding answer_line
line_long = overlong stem_bytes (line_feed ∷ [])

pub line_kept : ByKept answer_line
unfolding answer_line
line_kept = kept_enough stem_bytes (line_feed ∷ [])
