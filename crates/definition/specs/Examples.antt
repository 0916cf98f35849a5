-- Words and what the definition gives for them: document 01's twelve, worked examples for every step that changes a word, and small words
-- that show a wrong row, guard or replacement.
use Rattle.std.specs.Prelude.{ℕ, List, [], ◌∷◌}
use Rattle.definition.specs.Letters.{hamza, alef_madda, alef_hamza_above, waw_hamza, alef_hamza_below, yeh_hamza, alef, beh, teh_marbuta, teh, theh, jeem, hah, khah, dal, thal, reh, zain, seen, sheen, sad, dad, tah, zah, ain, ghain, feh, qaf, kaf, lam, meem, noon, heh, waw, alef_maksura, yeh}
use Rattle.definition.specs.Words.{Word}
use Rattle.definition.specs.Kind.{Kind, OPEN, DEFINED, kind}
use Rattle.definition.specs.Normal.{normalise}
use Rattle.definition.specs.Endings.{SuffixStep, verb_step1, verb_step2a, verb_step2b, verb_step2c, noun_step1b, noun_step2a, noun_step2b, noun_step2c1, noun_step2c2, noun_step3, Cut}
use Rattle.definition.specs.Fronts.{prefix_step1, prefix_step2, prefix_step3a_noun, prefix_step3b_noun, prefix_step3_verb, prefix_step4_verb, Applied, at}
use Rattle.definition.specs.Stem.{stem, chain, applied}

pub record Sample : Type 0 where
  pub word : Word
  pub stem : Word
  pub kind : Kind

abbrev pub sample : Word → Word → Kind → Sample
sample w s k = record { word = w; stem = s; kind = k }

-- a sample's word with the stem and the kind that the definition gives it
unfoldable pub computed : Sample → Sample
computed s = sample s.word (stem s.word) (kind s.word)

-- document 01's words to hold on to, each with its stem and its kind
unfoldable pub twelve : List Sample
twelve =
    sample [] [] OPEN
    ∷ sample (0xFEFB ∷ []) (0x644 ∷ 0x627 ∷ []) OPEN
    ∷ sample (0x623 ∷ []) (0x621 ∷ []) OPEN
    ∷ sample (0x639 ∷ 0x644 ∷ 0x64A ∷ []) (0x639 ∷ 0x644 ∷ []) OPEN
    ∷ sample (0x627 ∷ 0x644 ∷ 0x648 ∷ 0x62C ∷ 0x647 ∷ []) (0x648 ∷ 0x62C ∷ 0x647 ∷ []) DEFINED
    ∷ sample (0xFE8D ∷ 0xFEDF ∷ 0xFEEE ∷ 0xFE9F ∷ 0xFEEA ∷ []) (0x627 ∷ 0x644 ∷ 0x648 ∷ 0x62C ∷ []) OPEN
    ∷ sample (0x627 ∷ 0x644 ∷ 0x645 ∷ 0x633 ∷ 0x643 ∷ 0x646 ∷ []) (0x645 ∷ 0x633 ∷ 0x643 ∷ []) DEFINED
    ∷ sample (0x623 ∷ 0x623 ∷ 0x648 ∷ 0x643 ∷ 0x62A ∷ 0x628 ∷ []) (0x627 ∷ 0x643 ∷ 0x62A ∷ 0x628 ∷ []) OPEN
    ∷ sample (0x633 ∷ 0x64A ∷ 0x633 ∷ 0x62A ∷ 0x62E ∷ 0x631 ∷ 0x62C ∷ []) (0x64A ∷ 0x633 ∷ 0x62A ∷ 0x62E ∷ 0x631 ∷ 0x62C ∷ []) OPEN
    ∷ sample (0x628 ∷ 0x627 ∷ 0x644 ∷ 0x628 ∷ 0x64A ∷ 0x62A ∷ []) (0x628 ∷ 0x64A ∷ 0x62A ∷ []) DEFINED
    ∷ sample (0x628 ∷ 0x627 ∷ 0x644 ∷ 0x62D ∷ 0x642 ∷ []) (0x628 ∷ 0x627 ∷ 0x644 ∷ 0x62D ∷ 0x642 ∷ []) DEFINED
    ∷ sample (0x632 ∷ 0x64A ∷ 0x62A ∷ 0x648 ∷ 0x646 ∷ []) (0x632 ∷ 0x64A ∷ 0x62A ∷ 0x648 ∷ 0x646 ∷ []) OPEN
    ∷ []

-- A worked example also names the rows cut, in the order cut, and the steps applied in front, the last one foremost.
pub record Worked : Type 0 where
  pub word : Word
  pub kind : Kind
  pub chain : List Cut
  pub applied : List Applied
  pub stem : Word

abbrev pub worked : Word → Kind → List Cut → List Applied → Word → Worked
worked w k cs ms s = record { word = w; kind = k; chain = cs; applied = ms; stem = s }

abbrev pub row : SuffixStep → ℕ → Cut
row s r = record { step = s; row = r }

-- an example's word worked by the definition
unfoldable pub work : Worked → Worked
work e = worked e.word (kind e.word) (chain e.word) (applied e.word) (stem e.word)

unfoldable pub examples : List Worked
examples =
    -- the verb: Step1 and then Step2a
    worked (kaf ∷ teh ∷ beh ∷ teh ∷ heh ∷ alef ∷ []) OPEN (row verb_step1 11 ∷ row verb_step2a 10 ∷ []) [] (kaf ∷ teh ∷ beh ∷ [])
    -- Step1 twice and then Step2c, whose guard is just met
    ∷ worked (kaf ∷ teh ∷ beh ∷ teh ∷ meem ∷ waw ∷ heh ∷ noon ∷ heh ∷ []) OPEN (row verb_step1 5 ∷ row verb_step1 4 ∷ row verb_step2c 1 ∷ []) [] (kaf ∷ teh ∷ beh ∷ [])
    -- one letter fewer: the guard of its longest row is just missed, and the shorter row is not tried
    ∷ worked (kaf ∷ teh ∷ teh ∷ meem ∷ waw ∷ heh ∷ noon ∷ heh ∷ []) OPEN (row verb_step1 5 ∷ row verb_step1 4 ∷ []) [] (kaf ∷ teh ∷ teh ∷ meem ∷ waw ∷ [])
    -- with no cut by Step1: Step2b, its guard just met
    ∷ worked (kaf ∷ teh ∷ beh ∷ waw ∷ alef ∷ []) OPEN (row verb_step2b 1 ∷ []) [] (kaf ∷ teh ∷ beh ∷ [])
    -- just missed, and so Step2a
    ∷ worked (kaf ∷ teh ∷ waw ∷ alef ∷ []) OPEN (row verb_step2a 6 ∷ []) [] (kaf ∷ teh ∷ waw ∷ [])
    -- the guard of Step1 is just missed
    ∷ worked (meem ∷ lam ∷ kaf ∷ []) OPEN [] [] (meem ∷ lam ∷ kaf ∷ [])
    -- the noun: Step2c2 and then Step3
    ∷ worked (dal ∷ reh ∷ yeh ∷ teh_marbuta ∷ []) OPEN (row noun_step2c2 0 ∷ row noun_step3 0 ∷ []) [] (dal ∷ reh ∷ [])
    -- Step3 fails, and the last 0649 becomes 064A
    ∷ worked (dal ∷ reh ∷ alef_maksura ∷ teh_marbuta ∷ []) OPEN (row noun_step2c2 0 ∷ []) [] (dal ∷ reh ∷ yeh ∷ [])
    -- Step3 cuts, and a last 0649 stays
    ∷ worked (dal ∷ alef_maksura ∷ yeh ∷ []) OPEN (row noun_step3 0 ∷ []) [] (dal ∷ alef_maksura ∷ [])
    -- an open word's Step2a
    ∷ worked (meem ∷ dal ∷ reh ∷ seen ∷ waw ∷ []) OPEN (row noun_step2a 0 ∷ []) [] (meem ∷ dal ∷ reh ∷ seen ∷ [])
    -- a defined word: Step1b and then Step2a; Step3a_Noun takes the article, and 0624 becomes 0648
    ∷ worked (alef ∷ lam ∷ meem ∷ waw_hamza ∷ meem ∷ noon ∷ waw ∷ noon ∷ []) DEFINED (row noun_step1b 0 ∷ row noun_step2a 0 ∷ []) (at prefix_step3a_noun 0 ∷ []) (meem ∷ waw ∷ meem ∷ noon ∷ [])
    -- Step1b and then Step2b, Step1b and then Step2c1: the guard of Step3a_Noun is just missed
    ∷ worked (alef ∷ lam ∷ beh ∷ noon ∷ alef ∷ teh ∷ noon ∷ []) DEFINED (row noun_step1b 0 ∷ row noun_step2b 0 ∷ []) [] (alef ∷ lam ∷ beh ∷ noon ∷ [])
    ∷ worked (alef ∷ lam ∷ beh ∷ noon ∷ teh ∷ noon ∷ []) DEFINED (row noun_step1b 0 ∷ row noun_step2c1 0 ∷ []) [] (alef ∷ lam ∷ beh ∷ noon ∷ [])
    -- Step1b, Step2a and then Step3 on its own 064A
    ∷ worked (alef ∷ lam ∷ beh ∷ yeh ∷ yeh ∷ noon ∷ []) DEFINED (row noun_step1b 0 ∷ row noun_step2a 1 ∷ row noun_step3 0 ∷ []) [] (alef ∷ lam ∷ beh ∷ [])
    -- Step1b's cut stays where its sequel fails
    ∷ worked (alef ∷ lam ∷ meem ∷ seen ∷ kaf ∷ noon ∷ []) DEFINED (row noun_step1b 0 ∷ []) (at prefix_step3a_noun 0 ∷ []) (meem ∷ seen ∷ kaf ∷ [])
    -- Step2 with its guard just met, and just missed where bytes would meet it; not at 0648 0627, and not at 0641 0627
    ∷ worked (waw ∷ kaf ∷ teh ∷ beh ∷ []) OPEN [] (at prefix_step2 1 ∷ []) (kaf ∷ teh ∷ beh ∷ [])
    ∷ worked (waw ∷ kaf ∷ beh ∷ []) OPEN [] [] (waw ∷ kaf ∷ beh ∷ [])
    ∷ worked (waw ∷ alef ∷ lam ∷ beh ∷ hah ∷ reh ∷ []) OPEN [] [] (waw ∷ alef ∷ lam ∷ beh ∷ hah ∷ reh ∷ [])
    ∷ worked (feh ∷ alef ∷ reh ∷ seen ∷ []) OPEN [] [] (feh ∷ alef ∷ reh ∷ seen ∷ [])
    -- Step1 on 0623 0624 leaves 0623
    ∷ worked (alef_hamza_above ∷ waw_hamza ∷ kaf ∷ dal ∷ []) OPEN [] (at prefix_step1 2 ∷ []) (alef ∷ kaf ∷ dal ∷ [])
    -- Step1 leaves a head letter, Step2 reads behind it, Step3a_Noun takes three: five letters go
    ∷ worked (alef_hamza_above ∷ alef ∷ waw ∷ beh ∷ alef ∷ lam ∷ dal ∷ reh ∷ []) OPEN [] (at prefix_step3a_noun 1 ∷ at prefix_step2 1 ∷ at prefix_step1 4 ∷ []) (alef ∷ dal ∷ reh ∷ [])
    -- Step3b_Noun takes one of two
    ∷ worked (kaf ∷ kaf ∷ teh ∷ beh ∷ []) OPEN [] (at prefix_step3b_noun 2 ∷ []) (kaf ∷ teh ∷ beh ∷ [])
    -- Step3_Verb, and Step4_Verb behind its replacement
    ∷ worked (seen ∷ yeh ∷ teh ∷ seen ∷ teh ∷ khah ∷ reh ∷ jeem ∷ []) OPEN [] (at prefix_step4_verb 0 ∷ at prefix_step3_verb 3 ∷ []) (yeh ∷ alef ∷ seen ∷ teh ∷ khah ∷ reh ∷ jeem ∷ [])
    -- a last letter with hamza
    ∷ worked (beh ∷ dal ∷ alef_hamza_above ∷ []) OPEN [] [] (beh ∷ dal ∷ hamza ∷ [])
    ∷ []

-- Small words: each shows a wrong guard, row, class, exception or replacement of its step that no other word here shows (compare/wrong).
unfoldable pub samples : List Sample
samples =
    -- the kind check
    sample (alef ∷ lam ∷ dal ∷ []) (alef ∷ lam ∷ dal ∷ []) OPEN
    ∷ sample (beh ∷ alef ∷ lam ∷ dal ∷ []) (beh ∷ alef ∷ lam ∷ dal ∷ []) OPEN
    ∷ sample (kaf ∷ alef ∷ lam ∷ dal ∷ []) (kaf ∷ alef ∷ lam ∷ dal ∷ []) OPEN
    ∷ sample (lam ∷ lam ∷ dal ∷ reh ∷ []) (lam ∷ lam ∷ dal ∷ reh ∷ []) DEFINED
    ∷ sample (kaf ∷ alef ∷ lam ∷ dal ∷ reh ∷ []) (kaf ∷ alef ∷ lam ∷ dal ∷ reh ∷ []) DEFINED
    -- the verb's Step1
    ∷ sample (dal ∷ reh ∷ kaf ∷ meem ∷ []) (dal ∷ reh ∷ kaf ∷ meem ∷ []) OPEN
    ∷ sample (dal ∷ reh ∷ kaf ∷ noon ∷ []) (dal ∷ reh ∷ kaf ∷ []) OPEN
    ∷ sample (dal ∷ reh ∷ noon ∷ alef ∷ []) (dal ∷ reh ∷ noon ∷ alef ∷ []) OPEN
    ∷ sample (dal ∷ reh ∷ noon ∷ yeh ∷ []) (dal ∷ reh ∷ noon ∷ []) OPEN
    ∷ sample (dal ∷ reh ∷ heh ∷ alef ∷ []) (dal ∷ reh ∷ heh ∷ []) OPEN
    ∷ sample (dal ∷ reh ∷ heh ∷ meem ∷ []) (dal ∷ reh ∷ heh ∷ meem ∷ []) OPEN
    ∷ sample (dal ∷ reh ∷ heh ∷ noon ∷ []) (dal ∷ reh ∷ heh ∷ []) OPEN
    ∷ sample (dal ∷ reh ∷ hah ∷ kaf ∷ noon ∷ []) (dal ∷ reh ∷ hah ∷ []) OPEN
    ∷ sample (dal ∷ reh ∷ hah ∷ kaf ∷ heh ∷ []) (dal ∷ reh ∷ hah ∷ []) OPEN
    ∷ sample (dal ∷ reh ∷ hah ∷ noon ∷ yeh ∷ []) (dal ∷ reh ∷ hah ∷ []) OPEN
    ∷ sample (dal ∷ reh ∷ hah ∷ heh ∷ noon ∷ []) (dal ∷ reh ∷ hah ∷ []) OPEN
    ∷ sample (dal ∷ reh ∷ hah ∷ heh ∷ heh ∷ alef ∷ []) (dal ∷ reh ∷ hah ∷ []) OPEN
    ∷ sample (dal ∷ reh ∷ hah ∷ kaf ∷ meem ∷ kaf ∷ noon ∷ []) (dal ∷ reh ∷ hah ∷ []) OPEN
    ∷ sample (dal ∷ reh ∷ hah ∷ heh ∷ meem ∷ heh ∷ alef ∷ []) (dal ∷ reh ∷ hah ∷ []) OPEN
    ∷ sample (dal ∷ reh ∷ kaf ∷ meem ∷ alef ∷ noon ∷ alef ∷ []) (dal ∷ reh ∷ kaf ∷ meem ∷ []) OPEN
    ∷ sample (dal ∷ reh ∷ hah ∷ kaf ∷ meem ∷ alef ∷ heh ∷ meem ∷ []) (dal ∷ reh ∷ hah ∷ []) OPEN
    ∷ sample (dal ∷ reh ∷ kaf ∷ meem ∷ waw ∷ kaf ∷ meem ∷ waw ∷ []) (dal ∷ reh ∷ kaf ∷ meem ∷ []) OPEN
    ∷ sample (dal ∷ reh ∷ heh ∷ meem ∷ alef ∷ heh ∷ meem ∷ alef ∷ []) (dal ∷ reh ∷ heh ∷ meem ∷ []) OPEN
    -- Step2a
    ∷ sample (dal ∷ reh ∷ alef ∷ []) (dal ∷ reh ∷ alef ∷ []) OPEN
    ∷ sample (dal ∷ reh ∷ teh ∷ []) (dal ∷ reh ∷ teh ∷ []) OPEN
    ∷ sample (dal ∷ reh ∷ teh ∷ alef ∷ []) (dal ∷ reh ∷ teh ∷ alef ∷ []) OPEN
    ∷ sample (dal ∷ reh ∷ teh ∷ noon ∷ []) (dal ∷ reh ∷ teh ∷ noon ∷ []) OPEN
    ∷ sample (dal ∷ reh ∷ hah ∷ alef ∷ noon ∷ []) (dal ∷ reh ∷ hah ∷ alef ∷ noon ∷ []) OPEN
    ∷ sample (dal ∷ reh ∷ hah ∷ teh ∷ alef ∷ []) (dal ∷ reh ∷ hah ∷ []) OPEN
    ∷ sample (dal ∷ reh ∷ hah ∷ teh ∷ noon ∷ []) (dal ∷ reh ∷ hah ∷ []) OPEN
    ∷ sample (dal ∷ reh ∷ hah ∷ yeh ∷ noon ∷ []) (dal ∷ reh ∷ hah ∷ yeh ∷ noon ∷ []) OPEN
    ∷ sample (dal ∷ reh ∷ hah ∷ teh ∷ meem ∷ alef ∷ []) (dal ∷ reh ∷ hah ∷ []) OPEN
    ∷ sample (dal ∷ reh ∷ hah ∷ yeh ∷ heh ∷ alef ∷ []) (dal ∷ reh ∷ hah ∷ []) OPEN
    ∷ sample (dal ∷ reh ∷ hah ∷ dal ∷ alef ∷ noon ∷ heh ∷ alef ∷ []) (dal ∷ reh ∷ hah ∷ dal ∷ []) OPEN
    -- Step2b
    ∷ sample (dal ∷ reh ∷ hah ∷ teh ∷ meem ∷ []) (dal ∷ reh ∷ hah ∷ []) OPEN
    -- Step2c
    ∷ sample (dal ∷ reh ∷ waw ∷ heh ∷ alef ∷ []) (dal ∷ reh ∷ waw ∷ []) OPEN
    ∷ sample (dal ∷ reh ∷ hah ∷ waw ∷ heh ∷ alef ∷ []) (dal ∷ reh ∷ hah ∷ []) OPEN
    -- the noun's Step2a
    ∷ sample (dal ∷ reh ∷ teh ∷ meem ∷ alef ∷ []) (dal ∷ reh ∷ teh ∷ meem ∷ []) OPEN
    -- Step2b
    ∷ sample (alef ∷ lam ∷ alef ∷ teh ∷ []) (alef ∷ lam ∷ alef ∷ teh ∷ []) DEFINED
    ∷ sample (alef ∷ lam ∷ dal ∷ alef ∷ teh ∷ []) (alef ∷ lam ∷ dal ∷ []) DEFINED
    -- Step2c2
    ∷ sample (dal ∷ reh ∷ teh_marbuta ∷ []) (dal ∷ reh ∷ teh_marbuta ∷ []) OPEN
    -- Step3
    ∷ sample (dal ∷ yeh ∷ []) (dal ∷ yeh ∷ []) OPEN
    -- the last 0649: no other letter
    ∷ sample (waw ∷ []) (waw ∷ []) OPEN
    -- the fronts: Step1
    ∷ sample (alef_hamza_above ∷ alef_madda ∷ dal ∷ []) (alef ∷ alef ∷ dal ∷ []) OPEN
    ∷ sample (alef_hamza_above ∷ alef_hamza_above ∷ dal ∷ []) (alef ∷ alef ∷ dal ∷ []) OPEN
    ∷ sample (alef_hamza_above ∷ waw_hamza ∷ dal ∷ []) (alef ∷ waw ∷ dal ∷ []) OPEN
    ∷ sample (alef_hamza_above ∷ alef_hamza_below ∷ dal ∷ []) (alef ∷ alef ∷ dal ∷ []) OPEN
    ∷ sample (alef_hamza_above ∷ alef ∷ dal ∷ []) (alef ∷ alef ∷ dal ∷ []) OPEN
    ∷ sample (alef_hamza_above ∷ alef_madda ∷ dal ∷ reh ∷ []) (alef ∷ dal ∷ reh ∷ []) OPEN
    ∷ sample (alef_hamza_above ∷ alef_hamza_above ∷ dal ∷ reh ∷ []) (alef ∷ dal ∷ reh ∷ []) OPEN
    ∷ sample (alef_hamza_above ∷ alef_hamza_below ∷ dal ∷ reh ∷ []) (alef ∷ dal ∷ reh ∷ []) OPEN
    ∷ sample (alef_hamza_above ∷ alef ∷ dal ∷ reh ∷ []) (alef ∷ dal ∷ reh ∷ []) OPEN
    -- Step2
    ∷ sample (feh ∷ dal ∷ reh ∷ []) (feh ∷ dal ∷ reh ∷ []) OPEN
    ∷ sample (feh ∷ dal ∷ reh ∷ hah ∷ []) (dal ∷ reh ∷ hah ∷ []) OPEN
    -- Step3a_Noun
    ∷ sample (lam ∷ lam ∷ dal ∷ reh ∷ hah ∷ []) (dal ∷ reh ∷ hah ∷ []) DEFINED
    ∷ sample (kaf ∷ alef ∷ lam ∷ dal ∷ reh ∷ hah ∷ []) (dal ∷ reh ∷ hah ∷ []) DEFINED
    -- Step3b_Noun
    ∷ sample (beh ∷ beh ∷ dal ∷ []) (beh ∷ beh ∷ dal ∷ []) OPEN
    ∷ sample (kaf ∷ kaf ∷ dal ∷ []) (kaf ∷ kaf ∷ dal ∷ []) OPEN
    ∷ sample (beh ∷ beh ∷ dal ∷ reh ∷ []) (beh ∷ dal ∷ reh ∷ []) OPEN
    ∷ sample (beh ∷ dal ∷ reh ∷ hah ∷ []) (dal ∷ reh ∷ hah ∷ []) OPEN
    -- Step3_Verb
    ∷ sample (seen ∷ alef_hamza_above ∷ dal ∷ reh ∷ []) (seen ∷ alef ∷ dal ∷ reh ∷ []) OPEN
    ∷ sample (seen ∷ teh ∷ dal ∷ reh ∷ []) (seen ∷ teh ∷ dal ∷ reh ∷ []) OPEN
    ∷ sample (seen ∷ noon ∷ dal ∷ reh ∷ []) (seen ∷ noon ∷ dal ∷ reh ∷ []) OPEN
    ∷ sample (seen ∷ yeh ∷ dal ∷ reh ∷ []) (seen ∷ yeh ∷ dal ∷ reh ∷ []) OPEN
    ∷ sample (seen ∷ alef_hamza_above ∷ dal ∷ reh ∷ hah ∷ []) (alef ∷ dal ∷ reh ∷ hah ∷ []) OPEN
    ∷ sample (seen ∷ teh ∷ dal ∷ reh ∷ hah ∷ []) (teh ∷ dal ∷ reh ∷ hah ∷ []) OPEN
    ∷ sample (seen ∷ noon ∷ dal ∷ reh ∷ hah ∷ []) (noon ∷ dal ∷ reh ∷ hah ∷ []) OPEN
    ∷ sample (seen ∷ yeh ∷ dal ∷ reh ∷ hah ∷ []) (yeh ∷ dal ∷ reh ∷ hah ∷ []) OPEN
    -- Step4_Verb
    ∷ sample (teh ∷ seen ∷ teh ∷ dal ∷ []) (teh ∷ seen ∷ teh ∷ dal ∷ []) OPEN
    ∷ sample (noon ∷ seen ∷ teh ∷ dal ∷ reh ∷ []) (alef ∷ seen ∷ teh ∷ dal ∷ reh ∷ []) OPEN
    ∷ sample (yeh ∷ seen ∷ teh ∷ dal ∷ reh ∷ []) (alef ∷ seen ∷ teh ∷ dal ∷ reh ∷ []) OPEN
    -- finishing: the other letters
    ∷ sample (hamza ∷ dal ∷ []) (hamza ∷ dal ∷ []) OPEN
    ∷ sample (yeh_hamza ∷ dal ∷ []) (yeh ∷ dal ∷ []) OPEN
    -- the last letter
    ∷ sample (hamza ∷ []) (hamza ∷ []) OPEN
    ∷ sample (alef_madda ∷ []) (hamza ∷ []) OPEN
    ∷ sample (waw_hamza ∷ []) (hamza ∷ []) OPEN
    ∷ sample (alef_hamza_below ∷ []) (hamza ∷ []) OPEN
    ∷ sample (yeh_hamza ∷ []) (hamza ∷ []) OPEN
    -- steps wrongly put together: Step2a in a defined word, no Step2c2 there, an exception of Step2 read at the text's start,
    ∷ sample (lam ∷ lam ∷ teh_marbuta ∷ heh ∷ waw ∷ []) (teh_marbuta ∷ heh ∷ waw ∷ []) DEFINED
    ∷ sample (alef ∷ lam ∷ beh ∷ teh_marbuta ∷ []) (alef ∷ lam ∷ beh ∷ []) DEFINED
    ∷ sample (alef_hamza_above ∷ alef_hamza_above ∷ waw ∷ alef ∷ dal ∷ []) (alef ∷ waw ∷ alef ∷ dal ∷ []) OPEN
    -- the verb's Step1 cut short, an inner 0649 changed
    ∷ sample (noon ∷ teh ∷ waw ∷ heh ∷ heh ∷ heh ∷ []) (noon ∷ teh ∷ waw ∷ []) OPEN
    ∷ sample (noon ∷ teh ∷ waw ∷ heh ∷ heh ∷ heh ∷ heh ∷ heh ∷ heh ∷ heh ∷ heh ∷ heh ∷ heh ∷ heh ∷ heh ∷ []) (noon ∷ teh ∷ waw ∷ []) OPEN
    ∷ sample (dal ∷ alef_maksura ∷ reh ∷ []) (dal ∷ alef_maksura ∷ reh ∷ []) OPEN
    ∷ []

-- Item 2 alone, on words of the letters that it reads: what it gives for them.
pub record NormalSample : Type 0 where
  pub word : Word
  pub normal : Word

abbrev pub normal_sample : Word → Word → NormalSample
normal_sample w n = record { word = w; normal = n }

unfoldable pub normalised : NormalSample → NormalSample
normalised s = normal_sample s.word (normalise s.word)

unfoldable pub normal_samples : List NormalSample
normal_samples =
    -- deleted: punctuation of ASCII; of Arabic, with the signs for percent, decimals and thousands; the tatweel and the vowel marks
    normal_sample (0x21 ∷ 0x22 ∷ 0x25 ∷ 0x2A ∷ 0x2C ∷ 0x2E ∷ 0x2F ∷ 0x3A ∷ 0x3B ∷ 0x3F ∷ 0x5C ∷ []) []
    ∷ normal_sample (0x60C ∷ 0x61B ∷ 0x61F ∷ 0x66A ∷ 0x66B ∷ 0x66C ∷ []) []
    ∷ normal_sample (0x640 ∷ 0x64B ∷ 0x64C ∷ 0x64D ∷ 0x64E ∷ 0x64F ∷ 0x650 ∷ 0x651 ∷ 0x652 ∷ []) []
    -- digits
    ∷ normal_sample (0x660 ∷ 0x661 ∷ 0x662 ∷ 0x663 ∷ 0x664 ∷ 0x665 ∷ 0x666 ∷ 0x667 ∷ 0x668 ∷ 0x669 ∷ []) (0x30 ∷ 0x31 ∷ 0x32 ∷ 0x33 ∷ 0x34 ∷ 0x35 ∷ 0x36 ∷ 0x37 ∷ 0x38 ∷ 0x39 ∷ [])
    -- a letter in each of its forms
    ∷ normal_sample (0xFE80 ∷ []) (hamza ∷ [])
    ∷ normal_sample (0xFE81 ∷ 0xFE82 ∷ []) (alef_madda ∷ alef_madda ∷ [])
    ∷ normal_sample (0xFE83 ∷ 0xFE84 ∷ []) (alef_hamza_above ∷ alef_hamza_above ∷ [])
    ∷ normal_sample (0xFE85 ∷ 0xFE86 ∷ []) (waw_hamza ∷ waw_hamza ∷ [])
    ∷ normal_sample (0xFE87 ∷ 0xFE88 ∷ []) (alef_hamza_below ∷ alef_hamza_below ∷ [])
    ∷ normal_sample (0xFE89 ∷ 0xFE8A ∷ 0xFE8B ∷ 0xFE8C ∷ []) (yeh_hamza ∷ yeh_hamza ∷ yeh_hamza ∷ yeh_hamza ∷ [])
    ∷ normal_sample (0xFE8D ∷ 0xFE8E ∷ []) (alef ∷ alef ∷ [])
    ∷ normal_sample (0xFE8F ∷ 0xFE90 ∷ 0xFE91 ∷ 0xFE92 ∷ []) (beh ∷ beh ∷ beh ∷ beh ∷ [])
    ∷ normal_sample (0xFE93 ∷ 0xFE94 ∷ []) (teh_marbuta ∷ teh_marbuta ∷ [])
    ∷ normal_sample (0xFE95 ∷ 0xFE96 ∷ 0xFE97 ∷ 0xFE98 ∷ []) (teh ∷ teh ∷ teh ∷ teh ∷ [])
    ∷ normal_sample (0xFE99 ∷ 0xFE9A ∷ 0xFE9B ∷ 0xFE9C ∷ []) (theh ∷ theh ∷ theh ∷ theh ∷ [])
    ∷ normal_sample (0xFE9D ∷ 0xFE9E ∷ 0xFE9F ∷ 0xFEA0 ∷ []) (jeem ∷ jeem ∷ jeem ∷ jeem ∷ [])
    ∷ normal_sample (0xFEA1 ∷ 0xFEA2 ∷ 0xFEA3 ∷ 0xFEA4 ∷ []) (hah ∷ hah ∷ hah ∷ hah ∷ [])
    ∷ normal_sample (0xFEA5 ∷ 0xFEA6 ∷ 0xFEA7 ∷ 0xFEA8 ∷ []) (khah ∷ khah ∷ khah ∷ khah ∷ [])
    ∷ normal_sample (0xFEA9 ∷ 0xFEAA ∷ []) (dal ∷ dal ∷ [])
    ∷ normal_sample (0xFEAB ∷ 0xFEAC ∷ []) (thal ∷ thal ∷ [])
    ∷ normal_sample (0xFEAD ∷ 0xFEAE ∷ []) (reh ∷ reh ∷ [])
    ∷ normal_sample (0xFEAF ∷ 0xFEB0 ∷ []) (zain ∷ zain ∷ [])
    ∷ normal_sample (0xFEB1 ∷ 0xFEB2 ∷ 0xFEB3 ∷ 0xFEB4 ∷ []) (seen ∷ seen ∷ seen ∷ seen ∷ [])
    ∷ normal_sample (0xFEB5 ∷ 0xFEB6 ∷ 0xFEB7 ∷ 0xFEB8 ∷ []) (sheen ∷ sheen ∷ sheen ∷ sheen ∷ [])
    ∷ normal_sample (0xFEB9 ∷ 0xFEBA ∷ 0xFEBB ∷ 0xFEBC ∷ []) (sad ∷ sad ∷ sad ∷ sad ∷ [])
    ∷ normal_sample (0xFEBD ∷ 0xFEBE ∷ 0xFEBF ∷ 0xFEC0 ∷ []) (dad ∷ dad ∷ dad ∷ dad ∷ [])
    ∷ normal_sample (0xFEC1 ∷ 0xFEC2 ∷ 0xFEC3 ∷ 0xFEC4 ∷ []) (tah ∷ tah ∷ tah ∷ tah ∷ [])
    ∷ normal_sample (0xFEC5 ∷ 0xFEC6 ∷ 0xFEC7 ∷ 0xFEC8 ∷ []) (zah ∷ zah ∷ zah ∷ zah ∷ [])
    ∷ normal_sample (0xFEC9 ∷ 0xFECA ∷ 0xFECB ∷ 0xFECC ∷ []) (ain ∷ ain ∷ ain ∷ ain ∷ [])
    ∷ normal_sample (0xFECD ∷ 0xFECE ∷ 0xFECF ∷ 0xFED0 ∷ []) (ghain ∷ ghain ∷ ghain ∷ ghain ∷ [])
    ∷ normal_sample (0xFED1 ∷ 0xFED2 ∷ 0xFED3 ∷ 0xFED4 ∷ []) (feh ∷ feh ∷ feh ∷ feh ∷ [])
    ∷ normal_sample (0xFED5 ∷ 0xFED6 ∷ 0xFED7 ∷ 0xFED8 ∷ []) (qaf ∷ qaf ∷ qaf ∷ qaf ∷ [])
    ∷ normal_sample (0xFED9 ∷ 0xFEDA ∷ 0xFEDB ∷ 0xFEDC ∷ []) (kaf ∷ kaf ∷ kaf ∷ kaf ∷ [])
    ∷ normal_sample (0xFEDD ∷ 0xFEDE ∷ 0xFEDF ∷ 0xFEE0 ∷ []) (lam ∷ lam ∷ lam ∷ lam ∷ [])
    ∷ normal_sample (0xFEE1 ∷ 0xFEE2 ∷ 0xFEE3 ∷ 0xFEE4 ∷ []) (meem ∷ meem ∷ meem ∷ meem ∷ [])
    ∷ normal_sample (0xFEE5 ∷ 0xFEE6 ∷ 0xFEE7 ∷ 0xFEE8 ∷ []) (noon ∷ noon ∷ noon ∷ noon ∷ [])
    ∷ normal_sample (0xFEE9 ∷ 0xFEEA ∷ 0xFEEB ∷ 0xFEEC ∷ []) (heh ∷ heh ∷ heh ∷ heh ∷ [])
    ∷ normal_sample (0xFEED ∷ 0xFEEE ∷ []) (waw ∷ waw ∷ [])
    ∷ normal_sample (0xFEEF ∷ 0xFEF0 ∷ []) (alef_maksura ∷ alef_maksura ∷ [])
    ∷ normal_sample (0xFEF1 ∷ 0xFEF2 ∷ 0xFEF3 ∷ 0xFEF4 ∷ []) (yeh ∷ yeh ∷ yeh ∷ yeh ∷ [])
    -- the ligatures of lam and alef
    ∷ normal_sample (0xFEF5 ∷ 0xFEF6 ∷ []) (lam ∷ alef_madda ∷ lam ∷ alef_madda ∷ [])
    ∷ normal_sample (0xFEF7 ∷ 0xFEF8 ∷ []) (lam ∷ alef_hamza_above ∷ lam ∷ alef_hamza_above ∷ [])
    ∷ normal_sample (0xFEF9 ∷ 0xFEFA ∷ []) (lam ∷ alef_hamza_below ∷ lam ∷ alef_hamza_below ∷ [])
    ∷ normal_sample (0xFEFB ∷ 0xFEFC ∷ []) (lam ∷ alef ∷ lam ∷ alef ∷ [])
    -- letters beside these stay
    ∷ normal_sample (0x20 ∷ 0x23 ∷ 0x26 ∷ 0x5B ∷ 0x5D ∷ 0x653 ∷ 0x65F ∷ 0x66D ∷ 0xFE7F ∷ 0xFEFD ∷ []) (0x20 ∷ 0x23 ∷ 0x26 ∷ 0x5B ∷ 0x5D ∷ 0x653 ∷ 0x65F ∷ 0x66D ∷ 0xFE7F ∷ 0xFEFD ∷ [])
    ∷ []
