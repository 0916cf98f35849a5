-- The stem with two neighbouring steps exchanged, for the question why a step stands where it does.
use Rattle.std.specs.Prelude.{ℕ, zero, suc, List, [], ◌∷◌, ◌++◌, map, eqb, length}
use Rattle.definition.specs.Words.{Word, pick}
use Rattle.definition.specs.Tries.{Step, Try, done, failed, after, in_turn, first_of, all_of}
use Rattle.definition.specs.Kind.{Kind}
use Rattle.definition.specs.Endings.{Cutting, uncut, after_verb_step1, verb_step1_in_turn, verb_choices, after_noun_step1b, noun_step1b_in_turn, noun_choices, noun_in_turn, all_ending_choices}
use Rattle.definition.specs.Fronts.{Fronting, text, prefix_step3_verb_in_turn, prefix_step3_choices, prefixes_in_turn, started}
use Rattle.definition.specs.Finish.{finish_in_turn}
use Rattle.definition.specs.Stem.{items_in_turn, unchecked}

-- The places where steps stand in an order: they follow each other, or the first that succeeds is taken.
pub data Place : Type 0 where
  -- kind check, normalising, endings, fronts, finishing
  way : Place
  -- the first of: the verb, the noun, the last 0649
  ends : Place
  -- the first of: the verb's Step1 and what follows it, Step2b, Step2a
  verbs : Place
  -- Step1 as often as it cuts, and its sequel; the first of: Step2a, Step2c, nothing
  verb_turns verb_sequel : Place
  -- what comes first, and Step3; the first of: Step2c2, Step1b and sequel, Step2a, Step2b, nothing
  noun_turns nouns : Place
  -- Step1b and its sequel; the first of: Step2a, Step2b, Step2c1
  step1b_turns step1b_sequel : Place
  -- Step1, Step2, and what follows; the first of: Step3a_Noun, Step3b_Noun, the verb's fronts; Step3_Verb and Step4_Verb
  fronts thirds verb_fronts : Place
  -- the last letter, all letters
  finishing : Place
  -- no step stands here
  nowhere : Place

abbrev pub place_number : Place → ℕ
place_number way = 0
place_number ends = 1
place_number verbs = 2
place_number verb_turns = 3
place_number verb_sequel = 4
place_number noun_turns = 5
place_number nouns = 6
place_number step1b_turns = 7
place_number step1b_sequel = 8
place_number fronts = 9
place_number thirds = 10
place_number verb_fronts = 11
place_number finishing = 12
place_number nowhere = 13

-- two neighbours: their place, and the number of the first of them, from 0
pub record Pair : Type 0 where
  pub place : Place
  pub first : ℕ

abbrev pub pair : Place → ℕ → Pair
pair p i = record { place = p; first = i }

abbrev pub unexchanged : Pair
unexchanged = pair nowhere 0

module _ {A : Type 0} where
  -- the entries i and i + 1 exchanged
  unfoldable pub exchanged : ℕ → List A → List A
  exchanged i [] = []
  exchanged i (f ∷ []) = f ∷ []
  exchanged zero (f ∷ g ∷ fs) = g ∷ f ∷ fs
  exchanged (suc i) (f ∷ g ∷ fs) = f ∷ exchanged i (g ∷ fs)

  -- the steps of the place p, where the pair x changes places
  unfoldable pub ordered : Pair → Place → List A → List A
  ordered x p fs = pick (eqb (place_number x.place) (place_number p)) (exchanged x.first fs) fs

-- Item 4: where an alternative fails, the cursor goes back to where it stood before Step3, when nothing was passed yet.
abbrev pub rewound : Fronting → Fronting
rewound f = record { front = f.front; head_letter = f.head_letter; passed = []; rest = f.passed ++ f.rest; applied = f.applied }

abbrev pub rewound_if_failed : Try Fronting → Try Fronting
rewound_if_failed (done f) = done f
rewound_if_failed (failed f) = failed (rewound f)

abbrev pub from_here : Step Fronting → Step Fronting
from_here g f = rewound_if_failed (g f)

-- The definition's lists of steps, with the pair x exchanged where it stands.
module _ (x : Pair) where
  -- ---- the verb
  abbrev pub verb_sequel_by : Step Cutting
  verb_sequel_by = first_of (ordered x verb_sequel after_verb_step1)

  -- n bounds the number of cuts
  abbrev pub verb_turns_by : ℕ → Step Cutting
  verb_turns_by n = in_turn (ordered x verb_turns (verb_step1_in_turn n verb_sequel_by))

  unfoldable pub verb_by : Step Cutting
  verb_by v = first_of (ordered x verbs (verb_choices (verb_turns_by (length v.text)))) v

  -- ---- the noun
  abbrev pub step1b_by : Step Cutting
  step1b_by = in_turn (ordered x step1b_turns (noun_step1b_in_turn (first_of (ordered x step1b_sequel after_noun_step1b))))

  abbrev pub noun_first_by : Kind → Step Cutting
  noun_first_by k = first_of (ordered x nouns (noun_choices k step1b_by))

  unfoldable pub noun_by : Kind → Step Cutting
  noun_by k = in_turn (ordered x noun_turns (noun_in_turn (noun_first_by k)))

  -- ---- item 3
  unfoldable pub endings_by : Kind → Word → Try Cutting
  endings_by k n = first_of (ordered x ends (all_ending_choices k verb_by (noun_by k))) (uncut n)

  -- ---- item 4
  abbrev pub verb_fronts_by : Step Fronting
  verb_fronts_by = in_turn (ordered x verb_fronts prefix_step3_verb_in_turn)

  abbrev pub thirds_by : Kind → Step Fronting
  thirds_by k = first_of (map from_here (ordered x thirds (prefix_step3_choices k verb_fronts_by)))

  unfoldable pub prefix_steps_by : Kind → Step Fronting
  prefix_steps_by k = in_turn (ordered x fronts (prefixes_in_turn (thirds_by k)))

  -- ---- item 5
  unfoldable pub finish_by : Word → Word
  finish_by w = all_of (ordered x finishing finish_in_turn) w

  -- ---- a word's way
  unfoldable pub stem_by : Word → Word
  stem_by w = (all_of (ordered x way (items_in_turn
      (λ (k : Kind) (n : Word). (after (endings_by k n)).text)
      (λ (k : Kind) (n : Word). text (after (prefix_steps_by k (started n))))
      finish_by)) (unchecked w)).word
