-- Words and their stories: document 01's twelve, those that docs/ORDER.md works, and words for the steps that these leave out.
use Rattle.std.specs.Prelude.{ℕ, List, [], ◌∷◌, codes}
use Prim.Native.String.{String}
use Rattle.definition.specs.Words.{Word}
use Rattle.history.specs.Text.{story}

pub record StorySample : Type 0 where
  pub word : Word
  pub story : List ℕ

abbrev pub story_sample : Word → String → StorySample
story_sample w s = record { word = w; story = codes s }

-- a sample's word with the story that the definition gives it
unfoldable pub story_computed : StorySample → StorySample
story_computed e = record { word = e.word; story = story e.word }

-- document 01's words to hold on to
unfoldable pub twelve : List StorySample
twelve =
    story_sample [] ""
    ∷ story_sample (0xFEFB ∷ []) "Normalize pre FEFB 2\n"
    ∷ story_sample (0x623 ∷ []) "Normalize post last 0623 1\n"
    ∷ story_sample (0x639 ∷ 0x644 ∷ 0x64A ∷ []) "Suffix Noun Step3 064A 2\n"
    ∷ story_sample (0x627 ∷ 0x644 ∷ 0x648 ∷ 0x62C ∷ 0x647 ∷ []) "Prefix Step3a Noun 0627+0644 3\n"
    ∷ story_sample (0xFE8D ∷ 0xFEDF ∷ 0xFEEE ∷ 0xFE9F ∷ 0xFEEA ∷ []) "Normalize pre FE8D 5\nNormalize pre FEDF 5\nNormalize pre FEEE 5\nNormalize pre FE9F 5\nNormalize pre FEEA 5\nSuffix Verb Step1 0647 4\n"
    ∷ story_sample (0x627 ∷ 0x644 ∷ 0x645 ∷ 0x633 ∷ 0x643 ∷ 0x646 ∷ []) "Suffix Noun Step1b 0646 5\nPrefix Step3a Noun 0627+0644 3\n"
    ∷ story_sample (0x623 ∷ 0x623 ∷ 0x648 ∷ 0x643 ∷ 0x62A ∷ 0x628 ∷ []) "Prefix Step1 0623+0623 5\nPrefix Step2 0648 4\nNormalize post other 0623 4\n"
    ∷ story_sample (0x633 ∷ 0x64A ∷ 0x633 ∷ 0x62A ∷ 0x62E ∷ 0x631 ∷ 0x62C ∷ []) "Prefix Step3 Verb 0633+064A 6\n"
    ∷ story_sample (0x628 ∷ 0x627 ∷ 0x644 ∷ 0x628 ∷ 0x64A ∷ 0x62A ∷ []) "Prefix Step3a Noun 0628+0627+0644 3\n"
    ∷ story_sample (0x628 ∷ 0x627 ∷ 0x644 ∷ 0x62D ∷ 0x642 ∷ []) ""
    ∷ story_sample (0x632 ∷ 0x64A ∷ 0x62A ∷ 0x648 ∷ 0x646 ∷ []) ""
    ∷ []

-- the words that docs/ORDER.md works
unfoldable pub worked : List StorySample
worked =
    story_sample (0x648 ∷ 0x633 ∷ 0x64A ∷ 0x643 ∷ 0x62A ∷ 0x628 ∷ 0x648 ∷ 0x646 ∷ 0x647 ∷ 0x627 ∷ []) "Suffix Verb Step1 0647+0627 8\nSuffix Verb Step2a 0648+0646 6\nPrefix Step2 0648 5\nPrefix Step3 Verb 0633+064A 4\n"
    ∷ story_sample (0x627 ∷ 0x644 ∷ 0x645 ∷ 0x62F ∷ 0x631 ∷ 0x633 ∷ 0x64A ∷ 0x64A ∷ 0x646 ∷ []) "Suffix Noun Step1b 0646 8\nSuffix Noun Step2a 064A 7\nSuffix Noun Step3 064A 6\nPrefix Step3a Noun 0627+0644 4\n"
    ∷ []

-- the other steps, floating marks, and the order of items 3 to 5
unfoldable pub others : List StorySample
others =
    story_sample (0x643 ∷ 0x62A ∷ 0x628 ∷ 0x62A ∷ 0x647 ∷ 0x627 ∷ []) "Suffix Verb Step1 0647+0627 4\nSuffix Verb Step2a 062A 3\n"
    ∷ story_sample (0x643 ∷ 0x62A ∷ 0x628 ∷ 0x648 ∷ 0x627 ∷ []) "Suffix Verb Step2b 0648+0627 3\n"
    ∷ story_sample (0x627 ∷ 0x644 ∷ 0x628 ∷ 0x646 ∷ 0x627 ∷ 0x62A ∷ 0x646 ∷ []) "Suffix Noun Step1b 0646 6\nSuffix Noun Step2b 0627+062A 4\n"
    ∷ story_sample (0x627 ∷ 0x644 ∷ 0x628 ∷ 0x646 ∷ 0x62A ∷ 0x646 ∷ []) "Suffix Noun Step1b 0646 5\nSuffix Noun Step2c1 062A 4\n"
    ∷ story_sample (0x643 ∷ 0x62A ∷ 0x628 ∷ 0x62A ∷ 0x645 ∷ 0x648 ∷ 0x647 ∷ 0x646 ∷ 0x647 ∷ []) "Suffix Verb Step1 0647 8\nSuffix Verb Step1 0647+0646 6\nSuffix Verb Step2c 062A+0645+0648 3\n"
    ∷ story_sample (0x62F ∷ 0x631 ∷ 0x649 ∷ 0x629 ∷ []) "Suffix Noun Step2c2 0629 3\nSuffix All alef maqsura 0649 3\n"
    ∷ story_sample (0x627 ∷ 0x644 ∷ 0x645 ∷ 0x624 ∷ 0x645 ∷ 0x646 ∷ 0x648 ∷ 0x646 ∷ []) "Suffix Noun Step1b 0646 7\nSuffix Noun Step2a 0648 6\nPrefix Step3a Noun 0627+0644 4\nNormalize post other 0624 4\n"
    ∷ story_sample (0x623 ∷ 0x627 ∷ 0x648 ∷ 0x628 ∷ 0x627 ∷ 0x644 ∷ 0x62F ∷ 0x631 ∷ []) "Prefix Step1 0623+0627 7\nPrefix Step2 0648 6\nPrefix Step3a Noun 0628+0627+0644 3\n"
    ∷ story_sample (0x633 ∷ 0x64A ∷ 0x62A ∷ 0x633 ∷ 0x62A ∷ 0x62E ∷ 0x631 ∷ 0x62C ∷ []) "Prefix Step3 Verb 0633+064A 7\nPrefix Step4 Verb 062A+0633+062A 7\n"
    ∷ story_sample (0x643 ∷ 0x643 ∷ 0x62A ∷ 0x628 ∷ []) "Prefix Step3b Noun 0643+0643 3\n"
    ∷ story_sample (0xFE74 ∷ 0x628 ∷ 0x21 ∷ 0xFE7F ∷ 0x62F ∷ 0x623 ∷ []) "Floating mark FE74 5\nFloating mark FE7F 4\nNormalize pre 0021 3\nNormalize post last 0623 3\n"
    ∷ story_sample (0x623 ∷ 0x628 ∷ 0x622 ∷ 0x624 ∷ 0x626 ∷ 0x625 ∷ 0x62F ∷ 0x623 ∷ []) "Normalize post last 0623 8\nNormalize post other 0623 8\nNormalize post other 0622 8\nNormalize post other 0624 8\nNormalize post other 0626 8\nNormalize post other 0625 8\n"
    -- the last 0649, and then a front
    ∷ story_sample (0x627 ∷ 0x644 ∷ 0x647 ∷ 0x62F ∷ 0x649 ∷ []) "Suffix All alef maqsura 0649 5\nPrefix Step3a Noun 0627+0644 3\n"
    -- a front, and then the last letter
    ∷ story_sample (0x627 ∷ 0x644 ∷ 0x645 ∷ 0x628 ∷ 0x62F ∷ 0x623 ∷ []) "Prefix Step3a Noun 0627+0644 4\nNormalize post last 0623 4\n"
    -- a mark that a guard would count: 0643 is not cut
    ∷ story_sample (0x645 ∷ 0x644 ∷ 0xFE7B ∷ 0x643 ∷ []) "Floating mark FE7B 3\n"
    -- letters of other scripts count, and the number has two digits
    ∷ story_sample (0x61 ∷ 0x61 ∷ 0x61 ∷ 0x61 ∷ 0x61 ∷ 0x61 ∷ 0x61 ∷ 0x61 ∷ 0x61 ∷ 0x61 ∷ 0x61 ∷ 0x61 ∷ 0x21 ∷ []) "Normalize pre 0021 12\n"
    ∷ []
