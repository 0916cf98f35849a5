-- The definition before request A8, with the noun's Step1a: only for the proof that the definition without it is equal. What is not written here is the definition's.
use Rattle.std.specs.Prelude.{ℕ, ◌-◌, List, [], ◌∷◌, ◌++◌, map, reverse, length, take}
use Rattle.std.proofs.Math.Option.{Option, none, some}
use Rattle.definition.specs.Letters.{alef, kaf, meem, noon, heh, yeh}
use Rattle.definition.specs.Words.{Word, ends_with}
use Rattle.definition.specs.Tables.{Table, one, two, three}
use Rattle.definition.specs.Search.{Rule, rule, row_at, taken}
use Rattle.definition.specs.Tries.{Step, Try, done, failed, after, nothing, in_turn, first_of, all_of}
use Rattle.definition.specs.Kind.{Kind, if_open, kind}
use Rattle.definition.specs.Normal.{normalise}
use Rattle.definition.specs.Endings.{SuffixStep, noun_step1b, noun_step2a, noun_step2b, noun_step2c1, noun_step2c2, noun_step3, Cut, Cutting, uncut, cut, verb, maqsura}
use Rattle.definition.specs.Fronts.{text, fronts}
use Rattle.definition.specs.Finish.{finish}
use Rattle.definition.specs.Stem.{Under, items_in_turn, unchecked}

-- r_Suffix_Noun_Step1a
unfoldable pub A_10 : Table
A_10 =
    one kaf 1
    ∷ two kaf meem 2
    ∷ two heh meem 2
    ∷ two heh noon 2
    ∷ one heh 1
    ∷ one yeh 1
    ∷ three kaf meem alef 3
    ∷ three heh meem alef 3
    ∷ two noon alef 2
    ∷ two heh alef 2 ∷ []

unfoldable pub suffix_step1a : Rule
suffix_step1a = rule A_10 (4 ∷ 5 ∷ 6 ∷ [])

-- the steps that cut: those of the definition, and the noun's Step1a
pub data OldStep : Type 0 where
  kept : SuffixStep → OldStep
  noun_step1a : OldStep

-- an ending that was cut: its step, and the number of its row
pub record OldCut : Type 0 where
  pub step : OldStep
  pub row : ℕ

-- a cut of the definition as an old one: the same step, the same row
abbrev pub as_old : Cut → OldCut
as_old c = record { step = kept c.step; row = c.row }

-- the letters that are left, and the endings cut so far, the last one foremost
pub record OldCutting : Type 0 where
  pub text : Word
  pub cuts : List OldCut

-- nothing is cut yet
abbrev pub old_uncut : Word → OldCutting
old_uncut n = record { text = n; cuts = [] }

-- what the definition leaves and cuts, where the endings cs were cut before
abbrev pub onto : List OldCut → Cutting → OldCutting
onto cs v = record { text = v.text; cuts = map as_old v.cuts ++ cs }

abbrev pub try_onto : List OldCut → Try Cutting → Try OldCutting
try_onto cs (done v) = done (onto cs v)
try_onto cs (failed v) = failed (onto cs v)

-- a step of the definition as an old one: it reads the letters, and no step reads what was cut before
abbrev pub keeping : Step Cutting → Step OldCutting
keeping f v = try_onto v.cuts (f (uncut v.text))

-- Step1a: its longest row at the end is cut if the guard is met, and else the step fails
abbrev pub cut_step1a_by : OldCutting → Option ℕ → Try OldCutting
cut_step1a_by v none = failed v
cut_step1a_by v (some r) = done (record {
  text = take (length v.text - length (row_at A_10 r).letters) v.text;
  cuts = record { step = noun_step1a; row = r } ∷ v.cuts;
})

unfoldable pub cut_step1a : Step OldCutting
cut_step1a v = cut_step1a_by v (taken (ends_with v.text) suffix_step1a (length v.text))

-- ---- the noun

-- after Step1b: 2a, 2b or 2c1; after Step1a: the same, or nothing
abbrev pub old_after_step1b : List (Step OldCutting)
old_after_step1b = keeping (cut noun_step2a) ∷ keeping (cut noun_step2b) ∷ keeping (cut noun_step2c1) ∷ []

abbrev pub old_after_step1a : List (Step OldCutting)
old_after_step1a = old_after_step1b ++ (nothing ∷ [])

abbrev pub old_by_step1a : Step OldCutting
old_by_step1a = in_turn (cut_step1a ∷ first_of old_after_step1a ∷ [])

abbrev pub old_by_step1b : Step OldCutting
old_by_step1b = in_turn (keeping (cut noun_step1b) ∷ first_of old_after_step1b ∷ [])

-- behind Step1a: Step1b with its sequel; if open, 2a; 2b; none
abbrev pub old_behind_step1a : Kind → List (Step OldCutting)
old_behind_step1a k = old_by_step1b ∷ if_open k (keeping (cut noun_step2a)) ∷ keeping (cut noun_step2b) ∷ nothing ∷ []

-- first of: Step2c2; if open, Step1a with its sequel; those behind it
abbrev pub old_noun_choices : Kind → List (Step OldCutting)
old_noun_choices k = keeping (cut noun_step2c2) ∷ if_open k old_by_step1a ∷ old_behind_step1a k

-- then Step3
unfoldable pub old_noun : Kind → Step OldCutting
old_noun k = in_turn (first_of (old_noun_choices k) ∷ keeping (cut noun_step3) ∷ [])

-- ---- what is built on it

-- item 3, with a step for the verb: an open word first tries this; then the noun, and behind them the last 0649
unfoldable pub old_endings_by : Step OldCutting → Kind → Word → Try OldCutting
old_endings_by by_verb k n = first_of (if_open k by_verb ∷ old_noun k ∷ keeping maqsura ∷ []) (old_uncut n)

-- item 3
abbrev pub old_endings : Kind → Word → Try OldCutting
old_endings k n = old_endings_by (keeping verb) k n

abbrev pub old_endings_leave : Kind → Word → Word
old_endings_leave k n = (after (old_endings k n)).text

-- a word's way through the five items, to its stem and its kind
unfoldable pub old_way : Word → Under
old_way w = all_of (items_in_turn old_endings_leave (λ (k : Kind) (n : Word). text (fronts k n)) finish) (unchecked w)

abbrev pub old_stem : Word → Word
old_stem w = (old_way w).word

abbrev pub old_kind : Word → Kind
old_kind w = (old_way w).is

-- the chain: the rows that item 3 cuts, in the order cut
unfoldable pub old_chain : Word → List OldCut
old_chain w = reverse (after (old_endings (kind w) (normalise w))).cuts
