-- Each two neighbouring steps, and what comes of exchanging them: a word whose stem changes, or that no word shows it.
use Rattle.std.specs.Prelude.{◌≡◌, false, List, [], ◌∷◌, ◌++◌, ℕ, zero, suc, ◌-◌, length}
use Rattle.definition.specs.Words.{Word, same}
use Rattle.definition.specs.Tries.{nothing}
use Rattle.definition.specs.Kind.{Kind, OPEN}
use Rattle.definition.specs.Endings.{after_verb_step1, verb_step1_in_turn, verb_choices, after_noun_step1b, noun_step1b_in_turn, noun_choices, noun_in_turn, all_ending_choices}
use Rattle.definition.specs.Fronts.{prefix_step3_verb_in_turn, prefix_step3_choices, prefixes_in_turn}
use Rattle.definition.specs.Finish.{finish_in_turn}
use Rattle.definition.specs.Stem.{items_in_turn, stem}
use Rattle.order.specs.Order.{Place, way, ends, verbs, verb_turns, verb_sequel, noun_turns, nouns, step1b_turns, step1b_sequel, fronts, thirds, verb_fronts, finishing, nowhere, Pair, pair, stem_by}

-- no word's stem changes
abbrev pub Unshown : Pair → Type 0
Unshown x = (w : Word) → stem_by x w ≡ stem w

-- a word, its stem, and another stem with the two exchanged
pub record Shown (x : Pair) (word is exchanged : Word) : Type 0 where
  pub stem : stem word ≡ is
  pub other : stem_by x word ≡ exchanged
  pub differ : same is exchanged ≡ false

pub data Verdict : Type 0 where
  shown : Place → ℕ → Word → Word → Word → Verdict
  unshown : Place → ℕ → Verdict

abbrev pub Holds : Verdict → Type 0
Holds (shown p i w s t) = Shown (pair p i) w s t
Holds (unshown p i) = Unshown (pair p i)

abbrev pub AllHold : List Verdict → Type 0
AllHold [] = Unit {0}
AllHold (v ∷ vs) = Holds v × AllHold vs

-- In the order of a word's way. Each word shown is one of the fewest letters; from the third row on, among words without presentation forms.
unfoldable pub settled : List Verdict
settled =
    -- kind check | normalising
    shown way 0 (0x627 ∷ 0xFEF5 ∷ 0x646 ∷ []) (0x627 ∷ 0x644 ∷ 0x621 ∷ []) (0x627 ∷ 0x644 ∷ 0x627 ∷ 0x646 ∷ [])
    -- normalising | endings
    ∷ shown way 1 (0xFEEF ∷ []) (0x64A ∷ []) (0x649 ∷ [])
    -- endings | fronts
    ∷ shown way 2 (0x648 ∷ 0x631 ∷ 0x642 ∷ 0x629 ∷ []) (0x648 ∷ 0x631 ∷ 0x642 ∷ []) (0x631 ∷ 0x642 ∷ 0x629 ∷ [])
    -- fronts | finishing
    ∷ shown way 3 (0x623 ∷ 0x623 ∷ 0x643 ∷ 0x644 ∷ []) (0x627 ∷ 0x643 ∷ 0x644 ∷ []) (0x627 ∷ 0x627 ∷ 0x643 ∷ 0x644 ∷ [])
    -- the verb | the noun
    ∷ shown ends 0 (0x633 ∷ 0x648 ∷ 0x631 ∷ 0x64A ∷ 0x627 ∷ []) (0x633 ∷ 0x648 ∷ 0x631 ∷ 0x64A ∷ []) (0x633 ∷ 0x648 ∷ 0x631 ∷ [])
    -- the noun | the last 0649
    ∷ shown ends 1 (0x642 ∷ 0x631 ∷ 0x649 ∷ 0x629 ∷ []) (0x642 ∷ 0x631 ∷ 0x64A ∷ []) (0x642 ∷ 0x631 ∷ 0x649 ∷ [])
    -- the verb: Step1 and its sequel | Step2b
    ∷ unshown verbs 0
    -- Step2b | Step2a
    ∷ shown verbs 1 (0x643 ∷ 0x627 ∷ 0x646 ∷ 0x648 ∷ 0x627 ∷ []) (0x643 ∷ 0x627 ∷ 0x646 ∷ []) (0x643 ∷ 0x627 ∷ 0x646 ∷ 0x648 ∷ [])
    -- Step1 | its sequel
    ∷ shown verb_turns 0 (0x64A ∷ 0x628 ∷ 0x62F ∷ 0x648 ∷ []) (0x64A ∷ 0x628 ∷ 0x62F ∷ 0x648 ∷ []) (0x64A ∷ 0x628 ∷ 0x62F ∷ [])
    -- in the sequel: Step2a | Step2c
    ∷ unshown verb_sequel 0
    -- Step2c | nothing
    ∷ shown verb_sequel 1 (0x643 ∷ 0x62A ∷ 0x628 ∷ 0x648 ∷ 0x647 ∷ []) (0x643 ∷ 0x62A ∷ 0x628 ∷ []) (0x643 ∷ 0x62A ∷ 0x628 ∷ 0x648 ∷ [])
    -- the noun: what comes first | Step3
    ∷ shown noun_turns 0 (0x643 ∷ 0x644 ∷ 0x645 ∷ 0x629 ∷ []) (0x643 ∷ 0x644 ∷ 0x645 ∷ []) (0x643 ∷ 0x644 ∷ 0x645 ∷ 0x629 ∷ [])
    -- Step2c2 | Step1b
    ∷ shown nouns 0 (0x627 ∷ 0x644 ∷ 0x633 ∷ 0x646 ∷ 0x629 ∷ 0x646 ∷ []) (0x633 ∷ 0x646 ∷ 0x629 ∷ []) (0x627 ∷ 0x644 ∷ 0x633 ∷ 0x646 ∷ [])
    -- Step1b | Step2a
    ∷ unshown nouns 1
    -- Step2a | Step2b
    ∷ unshown nouns 2
    -- Step2b | nothing
    ∷ shown nouns 3 (0x627 ∷ 0x644 ∷ 0x630 ∷ 0x627 ∷ 0x62A ∷ []) (0x627 ∷ 0x644 ∷ 0x630 ∷ []) (0x630 ∷ 0x627 ∷ 0x62A ∷ [])
    -- Step1b | its sequel
    ∷ shown step1b_turns 0 (0x627 ∷ 0x644 ∷ 0x633 ∷ 0x62A ∷ []) (0x627 ∷ 0x644 ∷ 0x633 ∷ 0x62A ∷ []) (0x627 ∷ 0x644 ∷ 0x633 ∷ [])
    -- in the sequel: Step2a | Step2b
    ∷ unshown step1b_sequel 0
    -- Step2b | Step2c1
    ∷ shown step1b_sequel 1 (0x627 ∷ 0x644 ∷ 0x641 ∷ 0x627 ∷ 0x62A ∷ 0x646 ∷ []) (0x627 ∷ 0x644 ∷ 0x641 ∷ []) (0x627 ∷ 0x644 ∷ 0x641 ∷ 0x627 ∷ [])
    -- the fronts: Step1 | Step2
    ∷ shown fronts 0 (0x623 ∷ 0x623 ∷ 0x641 ∷ 0x62A ∷ 0x62D ∷ []) (0x627 ∷ 0x62A ∷ 0x62D ∷ []) (0x627 ∷ 0x641 ∷ 0x62A ∷ 0x62D ∷ [])
    -- Step2 | what follows
    ∷ shown fronts 1 (0x648 ∷ 0x642 ∷ 0x627 ∷ 0x644 ∷ []) (0x642 ∷ 0x627 ∷ 0x644 ∷ []) (0x648 ∷ 0x642 ∷ 0x627 ∷ 0x644 ∷ [])
    -- Step3a_Noun | Step3b_Noun
    ∷ unshown thirds 0
    -- Step3b_Noun | the verb's fronts
    ∷ unshown thirds 1
    -- Step3_Verb | Step4_Verb
    ∷ shown verb_fronts 0 (0x633 ∷ 0x64A ∷ 0x643 ∷ 0x648 ∷ 0x646 ∷ []) (0x64A ∷ 0x643 ∷ 0x648 ∷ 0x646 ∷ []) (0x633 ∷ 0x64A ∷ 0x643 ∷ 0x648 ∷ 0x646 ∷ [])
    -- finishing: the last letter | all letters
    ∷ shown finishing 0 (0x623 ∷ []) (0x621 ∷ []) (0x627 ∷ [])
    ∷ []

-- ---- all pairs of neighbours, in the same order

-- How many steps stand at a place: as many as the list has that is run there. What is nested in the list does not matter.
abbrev pub entries : Place → ℕ
entries way = length (items_in_turn (λ (k : Kind) (n : Word). n) (λ (k : Kind) (n : Word). n) (λ (n : Word). n))
entries ends = length (all_ending_choices OPEN nothing nothing)
entries verbs = length (verb_choices nothing)
entries verb_turns = length (verb_step1_in_turn 0 nothing)
entries verb_sequel = length after_verb_step1
entries noun_turns = length (noun_in_turn nothing)
entries nouns = length (noun_choices OPEN nothing)
entries step1b_turns = length (noun_step1b_in_turn nothing)
entries step1b_sequel = length after_noun_step1b
entries fronts = length (prefixes_in_turn nothing)
entries thirds = length (prefix_step3_choices OPEN nothing)
entries verb_fronts = length prefix_step3_verb_in_turn
entries finishing = length finish_in_turn
entries nowhere = 0

-- the first n pairs of a place from its pair i on
abbrev pub pairs_from : Place → ℕ → ℕ → List Pair
pairs_from p i zero = []
pairs_from p i (suc n) = pair p i ∷ pairs_from p (suc i) n

abbrev pub neighbours : List Place → List Pair
neighbours [] = []
neighbours (p ∷ ps) = pairs_from p 0 (entries p - 1) ++ neighbours ps

-- all places, each at its number
abbrev pub places : List Place
places =
    way ∷ ends ∷ verbs ∷ verb_turns ∷ verb_sequel ∷ noun_turns ∷ nouns ∷ step1b_turns ∷ step1b_sequel ∷ fronts ∷ thirds ∷ verb_fronts ∷ finishing ∷ []

abbrev pub pair_of : Verdict → Pair
pair_of (shown p i w s t) = pair p i
pair_of (unshown p i) = pair p i
