-- The environments that r_Normalize_pre and r_Normalize_post leave stand for the word normalised and finished. Assumes nothing.
use mathlib.Core.Path.{◌≡◌, sym, ◌∙◌, subst}
use mathlib.Core.Bool.{true}
use mathlib.Core.List.{List}
use Prim.Native.Nat.{ℕ}
use native.Mathlib.Omega.{arith}
use lib.ListN.{take}
use Rattle.utf8.specs.Utf8.{encode}
use Rattle.definition.specs.Words.{Word, every}
use Rattle.definition.specs.Normal.{normalise}
use Rattle.definition.specs.Finish.{finish}
use Rattle.definition.specs.Facts.{plain_letter}
use Rattle.definition.proofs.Passed.{plain_word}
use Rattle.snowball.specs.Chars.{Chars, started}
use Rattle.snowball.specs.Stands.{Standing}
use Rattle.utf8.specs.Spelt.{Encodes, Spelt}
use Rattle.places.specs.Places.{Typed, letters_of, normal_places}
use Rattle.utf8.proofs.Beside.{at_letters-wide}
use Rattle.arabic.specs.Texts.{typed_text, Normalised, Finished}
use Rattle.arabic.proofs.Marking.{plain_places}
use Rattle.arabic.proofs.Gives.{normalise-scalars}
use Rattle.arabic.proofs.FinishedLetter.{finish-wide, finish-size, finish-scalars}

module _ {current places : List ℕ} {limit at behind : ℕ} where
  -- the text in bytes
  pub encoded : {s : Chars} → Standing current places limit at behind s → (t : List ℕ) → t ≡ take limit current → Encodes t s.text
  encoded v t p = (v.scalars, p ∙ v.bytes)

  pub spelt : {s : Chars} → Standing current places limit at behind s → (t : List ℕ) → t ≡ take limit current → Spelt t
  spelt {s} v t p = record { word = s.text; encodes = encoded v t p }

  pub normalised : (ts : List Typed) → Standing current places limit at behind (typed_text ts) → (new beside : List ℕ) (n : ℕ) → Normalised ts new beside n
      → Standing new beside n at behind (started (normalise (letters_of ts)) (normal_places ts))
  unfolding encode
  normalised ts v new beside n d =
      record {
        scalars = normalise-scalars (letters_of ts) v.scalars;
        bytes = d.bytes;
        sized = d.sized;
        within = d.within;
        placed = d.placed;
        cursor = (omega arith, v.cursor.1);
        back = (omega arith, v.back.1);
      }

  -- a word of plain letters alone is normalised
  pub passed : (ts : List Typed) → Standing current places limit at behind (typed_text ts) → every plain_letter (letters_of ts) ≡ true
      → Standing current places limit at behind (started (normalise (letters_of ts)) (normal_places ts))
  passed ts v p =
      subst (λ (s : Chars). Standing current places limit at behind s)
      (λ i. started (sym (plain_word (letters_of ts) p) i) (sym (plain_places ts p) i)) v

  pub finished : (w : Word) (ps : List ℕ) → Standing current places limit at behind (started w ps) → (old new all : List ℕ) → take limit all ≡ new → Finished w old new
      → Standing all places limit at behind (started (finish w) ps)
  finished w ps v old new all t d =
      record {
        scalars = finish-scalars w v.scalars;
        bytes = t ∙ d.bytes;
        sized = v.sized ∙ sym (finish-size w);
        within = v.within;
        placed = at_letters-wide (finish w) w places (finish-wide w) ∙ v.placed;
        cursor = (omega arith, v.cursor.1);
        back = (omega arith, v.back.1);
      }
