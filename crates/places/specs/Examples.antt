-- Words with their stems and the places of the stems' letters.
use Rattle.std.specs.Prelude.{ℕ, List, [], ◌∷◌}
use Rattle.definition.specs.Letters.{hamza, alef_madda, alef_hamza_above, waw_hamza, alef_hamza_below, alef, beh, teh_marbuta, teh, jeem, khah, dal, reh, seen, kaf, lam, meem, noon, heh, waw, alef_maksura, yeh}
use Rattle.definition.specs.Words.{Word}
use Rattle.definition.specs.Stem.{stem}
use Rattle.definition.specs.Floating.{without_marks}
use Rattle.places.specs.Places.{places}

pub record PlaceSample : Type 0 where
  pub word : Word
  pub stem : Word
  pub places : List ℕ

abbrev pub place_sample : Word → Word → List ℕ → PlaceSample
place_sample w s ps = record { word = w; stem = s; places = ps }

-- a sample's word with what the definition gives for it
unfoldable pub places_computed : PlaceSample → PlaceSample
places_computed m = place_sample m.word (without_marks stem m.word) (places m.word)

unfoldable pub place_samples : List PlaceSample
place_samples =
    place_sample [] [] []
    -- both letters of a ligature have its place
    ∷ place_sample (0xFEFB ∷ []) (lam ∷ alef ∷ []) (0 ∷ 0 ∷ [])
    -- a letter of one byte, a mark that is deleted, a letter of two bytes, a ligature of three
    ∷ place_sample (0x61 ∷ 0x64E ∷ kaf ∷ 0xFEFB ∷ 0x61 ∷ []) (0x61 ∷ kaf ∷ lam ∷ alef ∷ 0x61 ∷ []) (0 ∷ 3 ∷ 5 ∷ 5 ∷ 8 ∷ [])
    -- floating marks of three bytes each, in front and between, and FE73, which is none
    ∷ place_sample (0xFE76 ∷ meem ∷ lam ∷ 0xFE7B ∷ kaf ∷ []) (meem ∷ lam ∷ kaf ∷ []) (3 ∷ 5 ∷ 10 ∷ [])
    ∷ place_sample (0xFE73 ∷ meem ∷ []) (0xFE73 ∷ meem ∷ []) (0 ∷ 3 ∷ [])
    -- endings cut behind; the last letter changed
    ∷ place_sample (kaf ∷ teh ∷ beh ∷ teh ∷ heh ∷ alef ∷ []) (kaf ∷ teh ∷ beh ∷ []) (0 ∷ 2 ∷ 4 ∷ [])
    ∷ place_sample (dal ∷ reh ∷ alef_maksura ∷ teh_marbuta ∷ []) (dal ∷ reh ∷ yeh ∷ []) (0 ∷ 2 ∷ 4 ∷ [])
    ∷ place_sample (alef_hamza_above ∷ []) (hamza ∷ []) (0 ∷ [])
    -- a letter twice in the stem; a letter behind a ligature that ends in it; a last letter that is cut, and the same one kept
    ∷ place_sample (meem ∷ dal ∷ dal ∷ []) (meem ∷ dal ∷ dal ∷ []) (0 ∷ 2 ∷ 4 ∷ [])
    ∷ place_sample (0xFEFB ∷ alef ∷ []) (lam ∷ alef ∷ alef ∷ []) (0 ∷ 0 ∷ 3 ∷ [])
    ∷ place_sample (0xFEF7 ∷ heh ∷ heh ∷ []) (lam ∷ alef ∷ heh ∷ []) (0 ∷ 0 ∷ 3 ∷ [])
    -- the article, before the letter with which it begins, and with a mark behind it
    ∷ place_sample (alef ∷ lam ∷ alef ∷ dal ∷ meem ∷ []) (alef ∷ dal ∷ meem ∷ []) (4 ∷ 6 ∷ 8 ∷ [])
    ∷ place_sample (alef ∷ lam ∷ 0x652 ∷ meem ∷ seen ∷ kaf ∷ heh ∷ []) (meem ∷ seen ∷ kaf ∷ heh ∷ []) (6 ∷ 8 ∷ 10 ∷ 12 ∷ [])
    -- Step1: the second's place, in each of its rows but 0623 0624
    ∷ place_sample (alef_hamza_above ∷ alef_madda ∷ kaf ∷ teh ∷ beh ∷ []) (alef ∷ kaf ∷ teh ∷ beh ∷ []) (2 ∷ 4 ∷ 6 ∷ 8 ∷ [])
    ∷ place_sample (alef_hamza_above ∷ alef_hamza_above ∷ kaf ∷ teh ∷ beh ∷ []) (alef ∷ kaf ∷ teh ∷ beh ∷ []) (2 ∷ 4 ∷ 6 ∷ 8 ∷ [])
    ∷ place_sample (alef_hamza_above ∷ waw_hamza ∷ kaf ∷ teh ∷ beh ∷ []) (alef ∷ kaf ∷ teh ∷ beh ∷ []) (0 ∷ 4 ∷ 6 ∷ 8 ∷ [])
    ∷ place_sample (alef_hamza_above ∷ alef_hamza_below ∷ kaf ∷ teh ∷ beh ∷ []) (alef ∷ kaf ∷ teh ∷ beh ∷ []) (2 ∷ 4 ∷ 6 ∷ 8 ∷ [])
    ∷ place_sample (alef_hamza_above ∷ alef ∷ kaf ∷ teh ∷ beh ∷ []) (alef ∷ kaf ∷ teh ∷ beh ∷ []) (2 ∷ 4 ∷ 6 ∷ 8 ∷ [])
    -- Step1 and Step2 behind the head letter
    ∷ place_sample (alef_hamza_above ∷ alef_hamza_above ∷ waw ∷ kaf ∷ teh ∷ beh ∷ []) (alef ∷ kaf ∷ teh ∷ beh ∷ []) (2 ∷ 6 ∷ 8 ∷ 10 ∷ [])
    -- and Step3b_Noun, so that twice two letters become one
    ∷ place_sample (alef_hamza_above ∷ alef_hamza_above ∷ waw ∷ kaf ∷ kaf ∷ teh ∷ beh ∷ reh ∷ []) (alef ∷ kaf ∷ teh ∷ beh ∷ reh ∷ []) (2 ∷ 8 ∷ 10 ∷ 12 ∷ 14 ∷ [])
    ∷ place_sample (alef_hamza_above ∷ alef_hamza_above ∷ beh ∷ beh ∷ teh ∷ reh ∷ []) (alef ∷ beh ∷ teh ∷ reh ∷ []) (2 ∷ 6 ∷ 8 ∷ 10 ∷ [])
    -- the second's place in the rows of Step3b_Noun that have two letters, and in those of Step3_Verb; Step4_Verb: letter for letter
    ∷ place_sample (beh ∷ beh ∷ kaf ∷ teh ∷ beh ∷ []) (beh ∷ kaf ∷ teh ∷ beh ∷ []) (2 ∷ 4 ∷ 6 ∷ 8 ∷ [])
    ∷ place_sample (kaf ∷ kaf ∷ teh ∷ beh ∷ []) (kaf ∷ teh ∷ beh ∷ []) (2 ∷ 4 ∷ 6 ∷ [])
    ∷ place_sample (seen ∷ alef_hamza_above ∷ kaf ∷ teh ∷ beh ∷ []) (alef ∷ kaf ∷ teh ∷ beh ∷ []) (2 ∷ 4 ∷ 6 ∷ 8 ∷ [])
    ∷ place_sample (seen ∷ noon ∷ kaf ∷ teh ∷ beh ∷ []) (noon ∷ kaf ∷ teh ∷ beh ∷ []) (2 ∷ 4 ∷ 6 ∷ 8 ∷ [])
    ∷ place_sample (seen ∷ teh ∷ kaf ∷ teh ∷ beh ∷ []) (teh ∷ kaf ∷ teh ∷ beh ∷ []) (2 ∷ 4 ∷ 6 ∷ 8 ∷ [])
    ∷ place_sample (seen ∷ yeh ∷ teh ∷ seen ∷ teh ∷ khah ∷ reh ∷ jeem ∷ []) (yeh ∷ alef ∷ seen ∷ teh ∷ khah ∷ reh ∷ jeem ∷ []) (2 ∷ 4 ∷ 6 ∷ 8 ∷ 10 ∷ 12 ∷ 14 ∷ [])
    ∷ []
