-- The tables of the Rust under their names there: each row's letters and its class, in the order of the source.
-- Source: rust-stemmers 1.2.0, src/snowball/algorithms/arabic.rs. Rows of A_0 from FE80 on are letters of Unicode 14.0's block Arabic Presentation Forms-B.
use Rattle.std.specs.Prelude.{ℕ, List, [], ◌∷◌}
use Rattle.definition.specs.Letters.{alef_madda, alef_hamza_above, waw_hamza, alef_hamza_below, yeh_hamza, alef, beh, teh_marbuta, teh, seen, feh, kaf, lam, meem, noon, heh, waw, alef_maksura, yeh}

pub record Row : Type 0 where
  pub letters : List ℕ
  pub class : ℕ

abbrev pub Table : Type 0
Table = List Row

-- a row of one, two or three letters, then its class
abbrev pub one : ℕ → ℕ → Row
one a k = record { letters = a ∷ []; class = k }

abbrev pub two : ℕ → ℕ → ℕ → Row
two a b k = record { letters = a ∷ b ∷ []; class = k }

abbrev pub three : ℕ → ℕ → ℕ → ℕ → Row
three a b c k = record { letters = a ∷ b ∷ c ∷ []; class = k }

-- r_Normalize_pre. The keys are code points.
unfoldable pub A_0 : Table
A_0 =
    -- punctuation: class 3 of ASCII, class 4 of Arabic
    one 0x21 3 ∷ one 0x22 3 ∷ one 0x25 3 ∷ one 0x2A 3 ∷ one 0x2C 3 ∷ one 0x2E 3 ∷ one 0x2F 3 ∷ one 0x3A 3
    ∷ one 0x3B 3 ∷ one 0x3F 3 ∷ one 0x5C 3 ∷ one 0x60C 4 ∷ one 0x61B 4 ∷ one 0x61F 4
    -- the tatweel (class 2) and the vowel marks (class 1)
    ∷ one 0x640 2 ∷ one 0x64B 1 ∷ one 0x64C 1 ∷ one 0x64D 1 ∷ one 0x64E 1 ∷ one 0x64F 1 ∷ one 0x650 1 ∷ one 0x651 1
    ∷ one 0x652 1
    -- the digits 0 to 9, then the signs for percent, decimals and thousands
    ∷ one 0x660 5 ∷ one 0x661 6 ∷ one 0x662 7 ∷ one 0x663 8 ∷ one 0x664 9 ∷ one 0x665 10 ∷ one 0x666 11 ∷ one 0x667 12
    ∷ one 0x668 13 ∷ one 0x669 14 ∷ one 0x66A 15 ∷ one 0x66B 15 ∷ one 0x66C 15
    -- Presentation Forms-B: a letter in each of its forms
    ∷ one 0xFE80 16
    ∷ one 0xFE81 20 ∷ one 0xFE82 20
    ∷ one 0xFE83 17 ∷ one 0xFE84 17
    ∷ one 0xFE85 21 ∷ one 0xFE86 21
    ∷ one 0xFE87 18 ∷ one 0xFE88 18
    ∷ one 0xFE89 19 ∷ one 0xFE8A 19 ∷ one 0xFE8B 19 ∷ one 0xFE8C 19
    ∷ one 0xFE8D 22 ∷ one 0xFE8E 22
    ∷ one 0xFE8F 23 ∷ one 0xFE90 23 ∷ one 0xFE91 23 ∷ one 0xFE92 23
    ∷ one 0xFE93 24 ∷ one 0xFE94 24
    ∷ one 0xFE95 25 ∷ one 0xFE96 25 ∷ one 0xFE97 25 ∷ one 0xFE98 25
    ∷ one 0xFE99 26 ∷ one 0xFE9A 26 ∷ one 0xFE9B 26 ∷ one 0xFE9C 26
    ∷ one 0xFE9D 27 ∷ one 0xFE9E 27 ∷ one 0xFE9F 27 ∷ one 0xFEA0 27
    ∷ one 0xFEA1 28 ∷ one 0xFEA2 28 ∷ one 0xFEA3 28 ∷ one 0xFEA4 28
    ∷ one 0xFEA5 29 ∷ one 0xFEA6 29 ∷ one 0xFEA7 29 ∷ one 0xFEA8 29
    ∷ one 0xFEA9 30 ∷ one 0xFEAA 30
    ∷ one 0xFEAB 31 ∷ one 0xFEAC 31
    ∷ one 0xFEAD 32 ∷ one 0xFEAE 32
    ∷ one 0xFEAF 33 ∷ one 0xFEB0 33
    ∷ one 0xFEB1 34 ∷ one 0xFEB2 34 ∷ one 0xFEB3 34 ∷ one 0xFEB4 34
    ∷ one 0xFEB5 35 ∷ one 0xFEB6 35 ∷ one 0xFEB7 35 ∷ one 0xFEB8 35
    ∷ one 0xFEB9 36 ∷ one 0xFEBA 36 ∷ one 0xFEBB 36 ∷ one 0xFEBC 36
    ∷ one 0xFEBD 37 ∷ one 0xFEBE 37 ∷ one 0xFEBF 37 ∷ one 0xFEC0 37
    ∷ one 0xFEC1 38 ∷ one 0xFEC2 38 ∷ one 0xFEC3 38 ∷ one 0xFEC4 38
    ∷ one 0xFEC5 39 ∷ one 0xFEC6 39 ∷ one 0xFEC7 39 ∷ one 0xFEC8 39
    ∷ one 0xFEC9 40 ∷ one 0xFECA 40 ∷ one 0xFECB 40 ∷ one 0xFECC 40
    ∷ one 0xFECD 41 ∷ one 0xFECE 41 ∷ one 0xFECF 41 ∷ one 0xFED0 41
    ∷ one 0xFED1 42 ∷ one 0xFED2 42 ∷ one 0xFED3 42 ∷ one 0xFED4 42
    ∷ one 0xFED5 43 ∷ one 0xFED6 43 ∷ one 0xFED7 43 ∷ one 0xFED8 43
    ∷ one 0xFED9 44 ∷ one 0xFEDA 44 ∷ one 0xFEDB 44 ∷ one 0xFEDC 44
    ∷ one 0xFEDD 45 ∷ one 0xFEDE 45 ∷ one 0xFEDF 45 ∷ one 0xFEE0 45
    ∷ one 0xFEE1 46 ∷ one 0xFEE2 46 ∷ one 0xFEE3 46 ∷ one 0xFEE4 46
    ∷ one 0xFEE5 47 ∷ one 0xFEE6 47 ∷ one 0xFEE7 47 ∷ one 0xFEE8 47
    ∷ one 0xFEE9 48 ∷ one 0xFEEA 48 ∷ one 0xFEEB 48 ∷ one 0xFEEC 48
    ∷ one 0xFEED 49 ∷ one 0xFEEE 49
    ∷ one 0xFEEF 50 ∷ one 0xFEF0 50
    ∷ one 0xFEF1 51 ∷ one 0xFEF2 51 ∷ one 0xFEF3 51 ∷ one 0xFEF4 51
    -- Presentation Forms-B: the ligatures of lam and alef
    ∷ one 0xFEF5 55 ∷ one 0xFEF6 55
    ∷ one 0xFEF7 53 ∷ one 0xFEF8 53
    ∷ one 0xFEF9 54 ∷ one 0xFEFA 54
    ∷ one 0xFEFB 52 ∷ one 0xFEFC 52 ∷ []

-- r_Normalize_post, the last letter
unfoldable pub A_1 : Table
A_1 =
    one alef_madda 1
    ∷ one alef_hamza_above 1
    ∷ one waw_hamza 2
    ∷ one alef_hamza_below 1
    ∷ one yeh_hamza 3 ∷ []

-- r_Normalize_post, the other letters
unfoldable pub A_2 : Table
A_2 =
    one alef_madda 1
    ∷ one alef_hamza_above 1
    ∷ one waw_hamza 2
    ∷ one alef_hamza_below 1
    ∷ one yeh_hamza 3 ∷ []

-- r_Checks1
unfoldable pub A_3 : Table
A_3 =
    two alef lam 2
    ∷ three beh alef lam 1
    ∷ three kaf alef lam 1
    ∷ two lam lam 2 ∷ []

-- r_Prefix_Step1
unfoldable pub A_4 : Table
A_4 =
    two alef_hamza_above alef_madda 2
    ∷ two alef_hamza_above alef_hamza_above 1
    ∷ two alef_hamza_above waw_hamza 3
    ∷ two alef_hamza_above alef_hamza_below 5
    ∷ two alef_hamza_above alef 4 ∷ []

-- r_Prefix_Step2
unfoldable pub A_5 : Table
A_5 =
    one feh 1
    ∷ one waw 2 ∷ []

-- r_Prefix_Step3a_Noun
unfoldable pub A_6 : Table
A_6 =
    two alef lam 2
    ∷ three beh alef lam 1
    ∷ three kaf alef lam 1
    ∷ two lam lam 2 ∷ []

-- r_Prefix_Step3b_Noun
unfoldable pub A_7 : Table
A_7 =
    one beh 1
    ∷ two beh beh 2
    ∷ two kaf kaf 3 ∷ []

-- r_Prefix_Step3_Verb
unfoldable pub A_8 : Table
A_8 =
    two seen alef_hamza_above 4
    ∷ two seen teh 2
    ∷ two seen noon 3
    ∷ two seen yeh 1 ∷ []

-- r_Prefix_Step4_Verb
unfoldable pub A_9 : Table
A_9 =
    three teh seen teh 1
    ∷ three noon seen teh 1
    ∷ three yeh seen teh 1 ∷ []

-- There is no A_10: its step, r_Suffix_Noun_Step1a, cuts in no word, as the crate old_noun shows.

-- r_Suffix_Noun_Step1b
unfoldable pub A_11 : Table
A_11 =
    one noon 1 ∷ []

-- r_Suffix_Noun_Step2a
unfoldable pub A_12 : Table
A_12 =
    one waw 1
    ∷ one yeh 1
    ∷ one alef 1 ∷ []

-- r_Suffix_Noun_Step2b
unfoldable pub A_13 : Table
A_13 =
    two alef teh 1 ∷ []

-- r_Suffix_Noun_Step2c1
unfoldable pub A_14 : Table
A_14 =
    one teh 1 ∷ []

-- r_Suffix_Noun_Step2c2
unfoldable pub A_15 : Table
A_15 =
    one teh_marbuta 1 ∷ []

-- r_Suffix_Noun_Step3
unfoldable pub A_16 : Table
A_16 =
    one yeh 1 ∷ []

-- r_Suffix_Verb_Step1
unfoldable pub A_17 : Table
A_17 =
    one kaf 1
    ∷ two kaf meem 2
    ∷ two heh meem 2
    ∷ two kaf noon 2
    ∷ two heh noon 2
    ∷ one heh 1
    ∷ three kaf meem waw 3
    ∷ two noon yeh 2
    ∷ three kaf meem alef 3
    ∷ three heh meem alef 3
    ∷ two noon alef 2
    ∷ two heh alef 2 ∷ []

-- r_Suffix_Verb_Step2a
unfoldable pub A_18 : Table
A_18 =
    one noon 2
    ∷ two waw noon 4
    ∷ two yeh noon 4
    ∷ two alef noon 4
    ∷ two teh noon 3
    ∷ one yeh 2
    ∷ one alef 2
    ∷ three teh meem alef 5
    ∷ two noon alef 3
    ∷ two teh alef 3
    ∷ one teh 1 ∷ []

-- r_Suffix_Verb_Step2b
unfoldable pub A_19 : Table
A_19 =
    two teh meem 1
    ∷ two waw alef 1 ∷ []

-- r_Suffix_Verb_Step2c
unfoldable pub A_20 : Table
A_20 =
    one waw 1
    ∷ three teh meem waw 2 ∷ []

-- r_Suffix_All_alef_maqsura
unfoldable pub A_21 : Table
A_21 =
    one alef_maksura 1 ∷ []
