-- How many endings are cut: what their number is at most, that no smaller bound holds, and words that reach the bounds (request A12).
use Rattle.std.specs.Prelude.{◌≡◌, List, [], ◌∷◌, ℕ, ◌-◌, ◌≤◌, ◌<◌, length, replicate}
use Rattle.definition.specs.Letters.{alef, beh, teh_marbuta, teh, seen, lam, meem, kaf, noon, heh, yeh}
use Rattle.definition.specs.Words.{Word}
use Rattle.definition.specs.Kind.{Kind, OPEN, DEFINED, kind}
use Rattle.definition.specs.Normal.{normalise}
use Rattle.definition.specs.Stem.{chain}
use Rattle.definition.specs.Depends.{four_go}

-- what a number m of endings is at most for the word w: by the number of its normalised letters, and by its kind
pub record FewEndings (w : Word) (m : ℕ) : Type 0 where
  pub below : length (normalise w) < 3 → m ≡ 0
  pub most : 3 ≤ length (normalise w) → m ≤ length (normalise w) - 2
  pub defined : kind w ≡ DEFINED → m ≤ 3

-- and it is no less: no other number in the place of the 3, the 2 or the 3 says more and holds of every word
pub record NoFewerEndings : Type 0 where
  pub below : (b : ℕ) → ((w : Word) → length (normalise w) < b → length (chain w) ≡ 0) → b ≤ 3
  pub most : (b : ℕ) → ((w : Word) → 3 ≤ length (normalise w) → length (chain w) ≤ length (normalise w) - b) → b ≤ 2
  pub defined : (b : ℕ) → ((w : Word) → kind w ≡ DEFINED → length (chain w) ≤ b) → 3 ≤ b

-- a word of three letters, the last of which is cut
abbrev pub one_goes : Word
one_goes = beh ∷ noon ∷ yeh ∷ []

-- a word, its kind, the number of its normalised letters, and the number of endings cut
pub record NumberSample : Type 0 where
  pub word : Word
  pub kind : Kind
  pub letters : ℕ
  pub endings : ℕ

abbrev pub number_sample : Word → Kind → ℕ → ℕ → NumberSample
number_sample w k n m = record { word = w; kind = k; letters = n; endings = m }

-- a sample's word with the numbers that the definition gives it
unfoldable pub counted : NumberSample → NumberSample
counted s = number_sample s.word (kind s.word) (length (normalise s.word)) (length (chain s.word))

unfoldable pub number_samples : List NumberSample
number_samples =
    -- no ending below three letters, and one where a third is there
    number_sample [] OPEN 0 0
    ∷ number_sample (noon ∷ yeh ∷ []) OPEN 2 0
    ∷ number_sample one_goes OPEN 3 1
    -- n - 2 of four letters, in an open and in a defined word
    ∷ number_sample (seen ∷ noon ∷ yeh ∷ teh_marbuta ∷ []) OPEN 4 2
    ∷ number_sample (alef ∷ lam ∷ yeh ∷ teh_marbuta ∷ []) DEFINED 4 2
    -- three in a defined word, and more in an open one
    ∷ number_sample four_go DEFINED 6 3
    ∷ number_sample (replicate 7 heh) OPEN 7 4
    -- the cut of an alternative that fails behind it: document 01's seventh word
    ∷ number_sample (alef ∷ lam ∷ meem ∷ seen ∷ kaf ∷ noon ∷ []) DEFINED 6 1
    -- a front is no ending: document 01's tenth word
    ∷ number_sample (beh ∷ alef ∷ lam ∷ beh ∷ yeh ∷ teh ∷ []) DEFINED 6 0
    -- the letters count as they are normalised: with a vowel mark, and with a ligature
    ∷ number_sample (beh ∷ noon ∷ 0x64E ∷ yeh ∷ []) OPEN 3 1
    ∷ number_sample (noon ∷ 0x64E ∷ yeh ∷ []) OPEN 2 0
    ∷ number_sample (0xFEFB ∷ yeh ∷ []) OPEN 3 1
    ∷ []
