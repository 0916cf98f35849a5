-- Pairs of item 3 that no word shows. Assumes nothing.
use mathlib.Core.Path.{◌≡◌, refl, sym, ap, subst}
use mathlib.Core.Bool.{true}
use mathlib.Core.Logic.{◌⊎◌, inl, inr}
use mathlib.Core.List.{List, [], ◌∷◌}
use lib.ListN.{length}
use Rattle.definition.specs.Words.{Word, same, ends_with}
use Rattle.definition.specs.Tables.{A_12, A_13, A_17, A_18, A_19, A_20}
use Rattle.definition.specs.Tries.{Step, Try, done, failed, nothing, and_then, if_failed, ◌then_try◌, in_turn, first_of}
use Rattle.definition.specs.Kind.{Kind, OPEN, DEFINED, if_open}
use Rattle.definition.specs.Endings.{SuffixStep, verb_step1, verb_step2a, verb_step2b, verb_step2c, noun_step1b, noun_step2a, noun_step2b, noun_step2c1, noun_step2c2, noun_step3, suffix, Cutting, uncut, cut, after_verb_step1, verb_step1_in_turn, verb_choices, verb, noun_step1b_in_turn, noun_by_step1b, noun_choices, noun_in_turn, maqsura, all_ending_choices}
use Rattle.definition.proofs.Verb.{verb-failed, none_by_verb}
use Rattle.definition.proofs.DefinedWords.{covered_1b}
use Rattle.order.specs.Order.{pair, verbs, verb_sequel, nouns, step1b_sequel, unexchanged, exchanged, ordered, verb_by, noun_by, endings_by}
use Rattle.order.proofs.Exchange.{Fails, Clean, behind, one_fails, exchange, last_succeeds, or_succeeds, again_succeeds, then_fails, then_clean, open_clean, open_fails}
use Rattle.order.proofs.Apart.{apart, cut_idle, cut_clean, one_idle}

-- ---- tables whose rows end in different letters
apart_1_2b : apart (suffix verb_step1).table (suffix verb_step2b).table ≡ true
unfolding suffix A_17 A_19 ends_with same
apart_1_2b = refl

apart_2a_2c : apart (suffix verb_step2a).table (suffix verb_step2c).table ≡ true
unfolding suffix A_18 A_20 ends_with same
apart_2a_2c = refl

apart_2a_2b : apart (suffix noun_step2a).table (suffix noun_step2b).table ≡ true
unfolding suffix A_12 A_13 ends_with same
apart_2a_2b = refl

-- two cuts that are neighbours in a list of alternatives
cuts_exchange : (s t : SuffixStep) → apart (suffix s).table (suffix t).table ≡ true → (fs : List (Step Cutting))
    → first_of (cut t ∷ cut s ∷ fs) ≡ first_of (cut s ∷ cut t ∷ fs)
cuts_exchange s t c fs = λ i v. exchange (cut s) (cut t) fs v (cut_clean s v) (cut_clean t v) (one_idle s t c v) i

-- ---- the verb
abbrev verb_in_turn : (v : Cutting) → Step Cutting
verb_in_turn v = in_turn (verb_step1_in_turn (length v.text) (first_of after_verb_step1))

turns_clean : (v : Cutting) → Clean (verb_in_turn v) v
turns_clean v =
    then_clean _ _ v (then_clean (cut verb_step1) _ v (cut_clean verb_step1 v) (again_succeeds (length v.text) (cut verb_step1)))
    (or_succeeds (cut verb_step2a) _ (or_succeeds (cut verb_step2c) _ last_succeeds))

-- Step1 | Step2b
pub verbs_0 : (k : Kind) (n : Word) → endings_by (pair verbs 0) k n ≡ endings_by unexchanged k n
unfolding endings_by verb_by noun_by ordered exchanged
verbs_0 k n = λ i. first_of (all_ending_choices k (λ (v : Cutting). go v (one_idle verb_step1 verb_step2b apart_1_2b v) i) (noun_by unexchanged k)) (uncut n)
  where
    go : (v : Cutting) → Fails (cut verb_step1) v ⊎ Fails (cut verb_step2b) v → verb_by (pair verbs 0) v ≡ verb_by unexchanged v
    go v (inl p) = exchange (verb_in_turn v) (cut verb_step2b) _ v (turns_clean v) (cut_clean verb_step2b v) (inl (then_fails _ _ v (then_fails (cut verb_step1) _ v p)))
    go v (inr p) = exchange (verb_in_turn v) (cut verb_step2b) _ v (turns_clean v) (cut_clean verb_step2b v) (inr p)

-- behind Step1: Step2a | Step2c
pub verb_sequel_0 : (k : Kind) (n : Word) → endings_by (pair verb_sequel 0) k n ≡ endings_by unexchanged k n
unfolding endings_by verb_by noun_by ordered exchanged
verb_sequel_0 k n = λ i. first_of (all_ending_choices k (go i) (noun_by unexchanged k)) (uncut n)
  where
    go : verb_by (pair verb_sequel 0) ≡ verb_by unexchanged
    go = λ i v. first_of (verb_choices (in_turn (verb_step1_in_turn (length v.text) (cuts_exchange verb_step2a verb_step2c apart_2a_2c (nothing ∷ []) i)))) v

-- ---- the noun
-- Step2a | Step2b
pub nouns_2 : (k : Kind) (n : Word) → endings_by (pair nouns 2) k n ≡ endings_by unexchanged k n
unfolding endings_by verb_by noun_by ordered exchanged first_of
nouns_2 k n = λ i. first_of (all_ending_choices k (verb_by unexchanged) (in_turn (noun_in_turn (whole i)))) (uncut n)
  where
    go : (v : Cutting) → Fails (cut noun_step2a) v ⊎ Fails (cut noun_step2b) v
        → first_of (cut noun_step2b ∷ if_open k (cut noun_step2a) ∷ nothing ∷ []) v ≡ first_of (if_open k (cut noun_step2a) ∷ cut noun_step2b ∷ nothing ∷ []) v
    go v (inl p) = sym (one_fails (if_open k (cut noun_step2a)) (cut noun_step2b) (nothing ∷ []) v (open_fails k _ v p) (cut_clean noun_step2b v))
    go v (inr p) = one_fails (cut noun_step2b) (if_open k (cut noun_step2a)) (nothing ∷ []) v p (open_clean k _ v (cut_clean noun_step2a v))

    whole : first_of (cut noun_step2c2 ∷ noun_by_step1b ∷ cut noun_step2b ∷ if_open k (cut noun_step2a) ∷ nothing ∷ [])
        ≡ first_of (cut noun_step2c2 ∷ noun_by_step1b ∷ if_open k (cut noun_step2a) ∷ cut noun_step2b ∷ nothing ∷ [])
    whole = λ i v. if_failed (cut noun_step2c2 v) (λ (a : Cutting). if_failed (noun_by_step1b a)
        (λ (b : Cutting). go b (one_idle noun_step2a noun_step2b apart_2a_2b b) i))

-- behind Step1b: Step2a | Step2b
pub step1b_sequel_0 : (k : Kind) (n : Word) → endings_by (pair step1b_sequel 0) k n ≡ endings_by unexchanged k n
unfolding endings_by verb_by noun_by ordered exchanged
step1b_sequel_0 k n = λ i. first_of (all_ending_choices k (verb_by unexchanged) (in_turn (noun_in_turn (first_of (noun_choices k
    (in_turn (noun_step1b_in_turn (cuts_exchange noun_step2a noun_step2b apart_2a_2b (cut noun_step2c1 ∷ []) i)))))))) (uncut n)

-- ---- where the verb has failed, Step1b takes no row

-- the noun of an open word at which Step1b takes no row
open_noun : (v : Cutting) → Fails (cut noun_step1b) v → noun_by (pair nouns 1) OPEN v ≡ noun_by unexchanged OPEN v
unfolding noun_by ordered exchanged ◌then_try◌
open_noun v p = ap (λ (t : Try Cutting). and_then t (cut noun_step3))
    (behind (cut noun_step2c2) (cut noun_step2a ∷ noun_by_step1b ∷ rest) (noun_by_step1b ∷ cut noun_step2a ∷ rest) v (cut_clean noun_step2c2 v)
    (sym (one_fails noun_by_step1b (cut noun_step2a) rest v (then_fails (cut noun_step1b) _ v p) (cut_clean noun_step2a v))))
  where
    rest : List (Step Cutting)
    rest = cut noun_step2b ∷ nothing ∷ []

-- Step1b | Step2a, which a defined word skips
pub nouns_1 : (k : Kind) (n : Word) → endings_by (pair nouns 1) k n ≡ endings_by unexchanged k n
unfolding endings_by verb_by verb noun_by ordered exchanged first_of
nouns_1 DEFINED n = refl
nouns_1 OPEN n = go (verb w) refl
  where
    w : Cutting
    w = uncut n

    go : (t : Try Cutting) → verb w ≡ t
        → if_failed t (first_of (noun_by (pair nouns 1) OPEN ∷ maqsura ∷ [])) ≡ if_failed t (first_of (noun_by unexchanged OPEN ∷ maqsura ∷ []))
    go (done v) h = refl
    go (failed v) h = subst (λ (u : Cutting). first_of (noun_by (pair nouns 1) OPEN ∷ maqsura ∷ []) u ≡ first_of (noun_by unexchanged OPEN ∷ maqsura ∷ []) u) (sym (verb-failed w v h))
        (ap (λ (t : Try Cutting). if_failed t (first_of (maqsura ∷ []))) (open_noun w (cut_idle noun_step1b w (none_by_verb w (suffix noun_step1b) covered_1b v h))))
