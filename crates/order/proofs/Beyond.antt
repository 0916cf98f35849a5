-- A pair past the end of its place's list exchanges nothing, so that no place has more pairs than the table. Assumes nothing.
use mathlib.Core.Path.{◌≡◌, refl, ap, ◌∙◌}
use mathlib.Core.List.{List, [], ◌∷◌, map}
use Prim.Native.Nat.{ℕ, zero, suc, ◌≤◌}
use native.Mathlib.Omega.{arith}
use lib.ListN.{length}
use Rattle.definition.specs.Words.{Word}
use Rattle.definition.specs.Tries.{Step, Try, after, in_turn, first_of, all_of}
use Rattle.definition.specs.Kind.{Kind, kind}
use Rattle.definition.specs.Normal.{normalise}
use Rattle.definition.specs.Endings.{Cutting, uncut, after_verb_step1, verb_step1_in_turn, verb_choices, after_noun_step1b, noun_step1b_in_turn, noun_by_step1b, noun_choices, noun_in_turn, all_ending_choices}
use Rattle.definition.specs.Fronts.{Fronting, text, prefix_step3_verb_in_turn, prefix_step3_choices, prefixes_in_turn, started}
use Rattle.definition.specs.Finish.{finish_in_turn}
use Rattle.definition.specs.Stem.{items_in_turn, unchecked}
use Rattle.order.specs.Order.{Place, way, ends, verbs, verb_turns, verb_sequel, noun_turns, nouns, step1b_turns, step1b_sequel, fronts, thirds, verb_fronts, finishing, nowhere, pair, unexchanged, exchanged, ordered, from_here, verb_by, noun_by, endings_by, prefix_steps_by, finish_by, stem_by}
use Rattle.order.specs.Settled.{Unshown, entries}
use Rattle.order.proofs.Kept.{by_endings, by_fronts}
use Rattle.order.proofs.Same.{same}

beyond : {A : Type 0} (i : ℕ) (fs : List A) → length fs ≤ suc i → exchanged i fs ≡ fs
unfolding exchanged
beyond i [] h = refl
beyond i (f ∷ []) h = refl
beyond zero (f ∷ g ∷ fs) h = absurd (omega arith)
beyond (suc i) (f ∷ g ∷ fs) h = ap (λ (x : List _). f ∷ x) (beyond i (g ∷ fs) (omega arith))

-- ---- item 3, put together from the definition's lists
abbrev verb_with : (ℕ → Step Cutting) → Step Cutting
verb_with g v = first_of (verb_choices (g (length v.text))) v

abbrev noun_with : Kind → Step Cutting → Step Cutting
noun_with k g = in_turn (noun_in_turn (first_of (noun_choices k g)))

abbrev with_verb : Kind → Word → Step Cutting → Try Cutting
with_verb k n f = first_of (all_ending_choices k f (noun_by unexchanged k)) (uncut n)

abbrev with_noun : Kind → Word → Step Cutting → Try Cutting
with_noun k n f = first_of (all_ending_choices k (verb_by unexchanged) f) (uncut n)

-- ---- item 4
abbrev step3_with : Kind → Step Fronting → List (Step Fronting)
step3_with k g = map from_here (prefix_step3_choices k g)

abbrev fronts_with : Word → Step Fronting → Try Fronting
fronts_with n g = in_turn (prefixes_in_turn g) (started n)

texts : {x y : Try Fronting} → x ≡ y → text (after x) ≡ text (after y)
texts e = ap (λ (t : Try Fronting). text (after t)) e

-- ---- a word's way
abbrev third : Kind → Word → Word
third k n = (after (endings_by unexchanged k n)).text

abbrev fourth : Kind → Word → Word
fourth k n = text (after (prefix_steps_by unexchanged k (started n)))

pub no_other : (p : Place) (i : ℕ) → entries p ≤ suc i → Unshown (pair p i)
unfolding stem_by ordered endings_by verb_by noun_by prefix_steps_by finish_by
no_other way i h = λ w. (λ j. (all_of (beyond i (items_in_turn third fourth (finish_by unexchanged)) h j) (unchecked w)).word) ∙ same w
no_other ends i h = by_endings (pair ends i)
    (λ k n j. first_of (beyond i (all_ending_choices k (verb_by unexchanged) (noun_by unexchanged k)) h j) (uncut n)) (λ w. refl)
no_other verbs i h = by_endings (pair verbs i)
    (λ k n j. with_verb k n (λ (v : Cutting). first_of (beyond i (verb_choices (in_turn (verb_step1_in_turn (length v.text) (first_of after_verb_step1)))) h j) v)) (λ w. refl)
no_other verb_turns i h = by_endings (pair verb_turns i)
    (λ k n j. with_verb k n (verb_with (λ (m : ℕ). in_turn (beyond i (verb_step1_in_turn m (first_of after_verb_step1)) h j)))) (λ w. refl)
no_other verb_sequel i h = by_endings (pair verb_sequel i)
    (λ k n j. with_verb k n (verb_with (λ (m : ℕ). in_turn (verb_step1_in_turn m (first_of (beyond i after_verb_step1 h j)))))) (λ w. refl)
no_other noun_turns i h = by_endings (pair noun_turns i)
    (λ k n j. with_noun k n (in_turn (beyond i (noun_in_turn (first_of (noun_choices k noun_by_step1b))) h j))) (λ w. refl)
no_other nouns i h = by_endings (pair nouns i)
    (λ k n j. with_noun k n (in_turn (noun_in_turn (first_of (beyond i (noun_choices k noun_by_step1b) h j))))) (λ w. refl)
no_other step1b_turns i h = by_endings (pair step1b_turns i)
    (λ k n j. with_noun k n (noun_with k (in_turn (beyond i (noun_step1b_in_turn (first_of after_noun_step1b)) h j)))) (λ w. refl)
no_other step1b_sequel i h = by_endings (pair step1b_sequel i)
    (λ k n j. with_noun k n (noun_with k (in_turn (noun_step1b_in_turn (first_of (beyond i after_noun_step1b h j)))))) (λ w. refl)
no_other fronts i h = by_fronts (pair fronts i)
    (λ k n. texts (λ j. in_turn (beyond i (prefixes_in_turn (first_of (step3_with k (in_turn prefix_step3_verb_in_turn)))) h j) (started n))) (λ w. refl)
no_other thirds i h = by_fronts (pair thirds i)
    (λ k n. texts (λ j. fronts_with n (first_of (map from_here (beyond i (prefix_step3_choices k (in_turn prefix_step3_verb_in_turn)) h j))))) (λ w. refl)
no_other verb_fronts i h = by_fronts (pair verb_fronts i)
    (λ k n. texts (λ j. fronts_with n (first_of (step3_with k (in_turn (beyond i prefix_step3_verb_in_turn h j)))))) (λ w. refl)
no_other finishing i h = λ w. (λ j. all_of (beyond i finish_in_turn h j) (fourth (kind w) (third (kind w) (normalise w)))) ∙ same w
no_other nowhere i h = same
