-- Request A5: the floating marks, a word without them, and what is asked of a word as typed.
-- Source: the Unicode Standard, version 14.0, block Arabic Presentation Forms-B (FE70 to FEFF), which gives each as one mark on a space (0020) or on a tatweel (0640).
use Rattle.std.specs.Prelude.{ℕ, ◌≤◌, ◌≡◌, ◌⊎◌, Bool, true, false, not, List, [], ◌∷◌, eqb}
use Rattle.definition.specs.Letters.{alef, beh, jeem, hah, kaf, lam, meem, heh, waw}
use Rattle.definition.specs.Words.{Word, pick, every}
use Rattle.definition.specs.Kind.{Kind, OPEN, DEFINED, kind}
use Rattle.definition.specs.Stem.{stem}

-- the fourteen; between them the charts have FE73, a tail fragment, and FE75, no character
unfoldable pub floating_marks : List ℕ
floating_marks =
    -- FATHATAN on a space, and on a tatweel
    0xFE70 ∷ 0xFE71
    -- DAMMATAN, and KASRATAN, on a space
    ∷ 0xFE72 ∷ 0xFE74
    -- FATHA, DAMMA, KASRA, SHADDA and SUKUN, each on a space and on a tatweel
    ∷ 0xFE76 ∷ 0xFE77
    ∷ 0xFE78 ∷ 0xFE79
    ∷ 0xFE7A ∷ 0xFE7B
    ∷ 0xFE7C ∷ 0xFE7D
    ∷ 0xFE7E ∷ 0xFE7F
    ∷ []

abbrev pub one_of : List ℕ → ℕ → Bool
one_of [] c = false
one_of (d ∷ ds) c = pick (eqb c d) true (one_of ds c)

unfoldable pub floating : ℕ → Bool
floating c = one_of floating_marks c

-- the word without its floating marks
unfoldable pub unmarked : Word → Word
unmarked [] = []
unmarked (c ∷ w) = pick (floating c) (unmarked w) (c ∷ unmarked w)

-- What is asked of a word as typed is asked of the word without its floating marks: its stem, kind and normalised form, and its chain, front, head letter, run and back.
-- Finishing alone is asked of the word as it is.
abbrev pub without_marks {ℓ} : {A : Type ℓ} → (Word → A) → Word → A
without_marks f w = f (unmarked w)

-- ---- what is said of them

-- FE70 to FE72, FE74, and FE76 to FE7F, as request A5 has them
abbrev pub FloatingRanges : ℕ → Type 0
FloatingRanges c = ((0xFE70 ≤ c) × (c ≤ 0xFE72)) ⊎ ((c ≡ 0xFE74) ⊎ ((0xFE76 ≤ c) × (c ≤ 0xFE7F)))

-- no letter of the word is a floating mark
abbrev pub no_mark : Word → Bool
no_mark = every (λ (c : ℕ). not (floating c))

-- ---- examples

-- A word with its kind and stem; and what they were while the marks counted as letters.
pub record MarkSample : Type 0 where
  pub word : Word
  pub kind_before : Kind
  pub stem_before : Word
  pub kind : Kind
  pub stem : Word

abbrev pub mark_sample : Word → Kind → Word → Kind → Word → MarkSample
mark_sample w j r k s = record { word = w; kind_before = j; stem_before = r; kind = k; stem = s }

-- a sample's word with what the definition gives for it
unfoldable pub mark_computed : MarkSample → MarkSample
mark_computed m = mark_sample m.word (kind m.word) (stem m.word) (without_marks kind m.word) (without_marks stem m.word)

unfoldable pub mark_samples : List MarkSample
mark_samples =
    -- a guard counted the mark, and 0643 was cut
    mark_sample (meem ∷ lam ∷ 0xFE7B ∷ kaf ∷ []) OPEN (meem ∷ lam ∷ 0xFE7B ∷ []) OPEN (meem ∷ lam ∷ kaf ∷ [])
    -- a mark split the article: document 01's fifth word was open
    ∷ mark_sample (alef ∷ 0xFE7F ∷ lam ∷ waw ∷ jeem ∷ heh ∷ []) OPEN (alef ∷ 0xFE7F ∷ lam ∷ waw ∷ jeem ∷ []) DEFINED (waw ∷ jeem ∷ heh ∷ [])
    -- the kind check counted the mark: four letters are too few for 0628 0627 0644
    ∷ mark_sample (beh ∷ alef ∷ lam ∷ hah ∷ 0xFE76 ∷ []) DEFINED (beh ∷ alef ∷ lam ∷ hah ∷ 0xFE76 ∷ []) OPEN (beh ∷ alef ∷ lam ∷ hah ∷ [])
    -- no letters are left of marks alone
    ∷ mark_sample floating_marks OPEN floating_marks OPEN []
    -- FE73 and FE75 count as letters, as before
    ∷ mark_sample (meem ∷ lam ∷ 0xFE73 ∷ kaf ∷ []) OPEN (meem ∷ lam ∷ 0xFE73 ∷ []) OPEN (meem ∷ lam ∷ 0xFE73 ∷ [])
    ∷ mark_sample (meem ∷ lam ∷ 0xFE75 ∷ kaf ∷ []) OPEN (meem ∷ lam ∷ 0xFE75 ∷ []) OPEN (meem ∷ lam ∷ 0xFE75 ∷ [])
    ∷ []
