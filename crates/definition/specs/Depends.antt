-- What a stem depends on, which cuts are in defined words only, and words that show that these laws are tight (request A13).
use Rattle.std.specs.Prelude.{◌≡◌, List, [], ◌∷◌, map, ℕ, length, take, drop}
use Rattle.definition.specs.Letters.{alef, teh, jeem, dal, reh, seen, sad, tah, ain, feh, kaf, lam, meem, noon, heh, waw, yeh}
use Rattle.definition.specs.Words.{Word}
use Rattle.definition.specs.Kind.{Kind, OPEN, DEFINED, kind}
use Rattle.definition.specs.Normal.{normalise}
use Rattle.definition.specs.Endings.{SuffixStep, verb_step1, verb_step2a, verb_step2b, verb_step2c, noun_step1b, noun_step2a, noun_step2b, noun_step2c1, noun_step2c2, noun_step3, Cut}
use Rattle.definition.specs.Stem.{stem, chain, back, applied, front, head_letter, run}
use Rattle.definition.specs.Examples.{Sample, twelve, row}

-- ---- the normalised word and the kind

-- u and w go the same way to the same stem
pub record SameWay (u w : Word) : Type 0 where
  pub stems : stem u ≡ stem w
  pub chains : chain u ≡ chain w
  pub backs : back u ≡ back w
  pub steps : applied u ≡ applied w
  pub fronts : front u ≡ front w
  pub heads : head_letter u ≡ head_letter w
  pub runs : run u ≡ run w

-- document 01's fifth word, its sixth, which is the fifth in presentation forms, and the fifth with a vowel mark
abbrev pub in_letters : Word
in_letters = 0x627 ∷ 0x644 ∷ 0x648 ∷ 0x62C ∷ 0x647 ∷ []

abbrev pub in_forms : Word
in_forms = 0xFE8D ∷ 0xFEDF ∷ 0xFEEE ∷ 0xFE9F ∷ 0xFEEA ∷ []

abbrev pub with_mark : Word
with_mark = 0x627 ∷ 0x644 ∷ 0x648 ∷ 0x62C ∷ 0x64E ∷ 0x647 ∷ []

-- all three have one normalised form; the first two have two kinds, and two stems
pub record OneWordTwoKinds : Type 0 where
  pub words : map (λ (s : Sample). s.word) (take 2 (drop 4 twelve)) ≡ in_letters ∷ in_forms ∷ []
  pub letters : normalise in_letters ≡ in_letters
  pub forms : normalise in_forms ≡ in_letters
  pub mark : normalise with_mark ≡ in_letters
  pub letters_kind : kind in_letters ≡ DEFINED
  pub forms_kind : kind in_forms ≡ OPEN
  pub mark_kind : kind with_mark ≡ DEFINED
  pub letters_stem : stem in_letters ≡ waw ∷ jeem ∷ heh ∷ []
  pub forms_stem : stem in_forms ≡ alef ∷ lam ∷ waw ∷ jeem ∷ []

-- ---- cuts in defined words only

-- the number of the row 064A in A_12
abbrev pub yeh_row : ℕ
yeh_row = 1

-- a cut by the noun's Step1b, Step2b or Step2c1, or by the row 064A of its Step2a
abbrev pub OnlyDefined : SuffixStep → ℕ → Type 0
OnlyDefined verb_step1 r = ⊥
OnlyDefined verb_step2a r = ⊥
OnlyDefined verb_step2b r = ⊥
OnlyDefined verb_step2c r = ⊥
OnlyDefined noun_step1b r = Unit {0}
OnlyDefined noun_step2a r = r ≡ yeh_row
OnlyDefined noun_step2b r = Unit {0}
OnlyDefined noun_step2c1 r = Unit {0}
OnlyDefined noun_step2c2 r = ⊥
OnlyDefined noun_step3 r = ⊥

-- a word's kind, and its chain
abbrev pub HasChain : Word → Kind → List Cut → Type 0
HasChain w k cs = (kind w ≡ k) × (chain w ≡ cs)

-- a defined word that loses four letters behind
abbrev pub four_go : Word
four_go = alef ∷ lam ∷ yeh ∷ alef ∷ teh ∷ noon ∷ []

-- defined words in which these cuts are made
pub record DefinedCuts : Type 0 where
  -- four letters go; a fifth that Step3 would take stays
  pub four : HasChain four_go DEFINED (row noun_step1b 0 ∷ row noun_step2b 0 ∷ row noun_step3 0 ∷ [])
  pub size : length (back four_go) ≡ 4
  pub fifth : HasChain (alef ∷ lam ∷ yeh ∷ yeh ∷ alef ∷ teh ∷ noon ∷ []) DEFINED (row noun_step1b 0 ∷ row noun_step2b 0 ∷ row noun_step3 0 ∷ [])
  -- each of the three steps, and the row 064A of Step2a
  pub step1b : HasChain (alef ∷ lam ∷ meem ∷ ain ∷ dal ∷ noon ∷ []) DEFINED (row noun_step1b 0 ∷ [])
  pub step2b : HasChain (alef ∷ lam ∷ sad ∷ feh ∷ alef ∷ teh ∷ []) DEFINED (row noun_step2b 0 ∷ [])
  pub step2c1 : HasChain (alef ∷ lam ∷ dal ∷ reh ∷ teh ∷ noon ∷ []) DEFINED (row noun_step1b 0 ∷ row noun_step2c1 0 ∷ [])
  pub step2a : HasChain (alef ∷ lam ∷ meem ∷ dal ∷ reh ∷ seen ∷ yeh ∷ noon ∷ []) DEFINED (row noun_step1b 0 ∷ row noun_step2a yeh_row ∷ [])

-- open words with these endings: the verb cuts another
pub record OpenCuts : Type 0 where
  pub ends_noon : HasChain (meem ∷ seen ∷ teh ∷ waw ∷ tah ∷ noon ∷ []) OPEN (row verb_step2a 0 ∷ [])
  pub ends_kaf_noon : HasChain (meem ∷ dal ∷ reh ∷ seen ∷ kaf ∷ noon ∷ []) OPEN (row verb_step1 3 ∷ [])
  pub ends_alef_teh : HasChain (meem ∷ ain ∷ lam ∷ meem ∷ alef ∷ teh ∷ []) OPEN (row verb_step2a 10 ∷ [])
  pub ends_teh_noon : HasChain (meem ∷ dal ∷ reh ∷ seen ∷ teh ∷ noon ∷ []) OPEN (row verb_step2a 4 ∷ [])
  pub ends_yeh : HasChain (meem ∷ dal ∷ reh ∷ seen ∷ yeh ∷ []) OPEN (row verb_step2a 5 ∷ [])
