-- Where the verb has failed, Step1a takes no row, so that both definitions of the endings agree, and with them stem, kind and chain. Assumes nothing.
use mathlib.Core.Path.{◌≡◌, refl, sym, ap, ◌∙◌, subst}
use mathlib.Core.Bool.{true}
use mathlib.Core.List.{List, [], ◌∷◌, map, append-nil, reverse, reverse_aux}
use mathlib.Core.Option.{Option, none, some}
use Prim.Native.Nat.{ℕ}
use native.Mathlib.Omega.{arith}
use lib.ListN.{length}
use Rattle.definition.specs.Words.{Word, same, ends_with}
use Rattle.definition.specs.Tables.{A_17, A_18}
use Rattle.definition.specs.Search.{longer, longest, taken}
use Rattle.definition.specs.Tries.{Step, Try, done, failed, after, nothing, and_then, if_failed, ◌then_try◌, first_of}
use Rattle.definition.specs.Kind.{Kind, OPEN, DEFINED, if_open, kind}
use Rattle.definition.specs.Normal.{normalise}
use Rattle.definition.specs.Endings.{SuffixStep, noun_step1b, noun_step2a, noun_step2b, noun_step2c1, noun_step2c2, noun_step3, suffix, Cut, Cutting, uncut, cut_off, cut_by, cut, after_noun_step1b, noun_by_step1b, noun_choices, verb, noun, maqsura, all_endings}
use Rattle.definition.specs.Fronts.{text, fronts}
use Rattle.definition.specs.Finish.{finish}
use Rattle.definition.specs.Stem.{cutting, stem, cuts, chain}
use Rattle.definition.proofs.Verb.{covered_by_verb, verb-failed, none_by_verb, taken_by_verb}
use Rattle.definition.proofs.Leave.{all-endings}
use Rattle.old_noun.specs.OldNoun.{A_10, suffix_step1a, OldStep, kept, noun_step1a, as_old, OldCutting, old_uncut, onto, try_onto, keeping, cut_step1a_by, cut_step1a, old_after_step1b, old_after_step1a, old_by_step1a, old_by_step1b, old_behind_step1a, old_noun_choices, old_noun, old_endings_by, old_endings, old_way, old_stem, old_kind, old_chain}
use Rattle.old_noun.specs.Facts.{not_step1a, AllSteps}
use Rattle.old_noun.proofs.Agree.{Agree, agree_cut, agree_maqsura, agree_nothing, then_agrees, or_agrees, agree_if, agree_then, agree_first}

-- ---- every row of A_10 is taken by the verb's Step1 or by its Step2a
covered : covered_by_verb suffix_step1a ≡ true
unfolding suffix_step1a A_10 suffix A_17 A_18 ends_with same longest longer
covered = refl

-- ---- the noun: where Step1a with its sequel fails at once, the rest agrees
agree_step1b : Agree old_by_step1b noun_by_step1b
agree_step1b = agree_then _ _ (agree_cut noun_step1b) _ _
    (agree_first old_after_step1b after_noun_step1b (agree_cut noun_step2a, (agree_cut noun_step2b, (agree_cut noun_step2c1, tt))))

module _ (k : Kind) (n : Word) (idle : if_open k old_by_step1a (old_uncut n) ≡ failed (old_uncut n)) where
  -- the same choices in the definition, behind Step2c2
  abbrev rest : List (Step Cutting)
  rest = noun_by_step1b ∷ if_open k (cut noun_step2a) ∷ cut noun_step2b ∷ nothing ∷ []

  rest_agree : Agree (first_of (old_behind_step1a k)) (first_of rest)
  rest_agree = agree_first (old_behind_step1a k) rest (agree_step1b, (agree_if _ _ (agree_cut noun_step2a) k, (agree_cut noun_step2b, (agree_nothing, tt))))

  from_step1a : first_of (if_open k old_by_step1a ∷ old_behind_step1a k) (old_uncut n) ≡ first_of (old_behind_step1a k) (old_uncut n)
  unfolding first_of
  from_step1a = ap (λ (t : Try OldCutting). if_failed t (first_of (old_behind_step1a k))) idle

  choices_agree : first_of (old_noun_choices k) (old_uncut n) ≡ try_onto [] (first_of (noun_choices k noun_by_step1b) (uncut n))
  unfolding first_of cut cut_off
  choices_agree = go (taken (ends_with n) (suffix noun_step2c2) (length n))
    where
      go : (o : Option ℕ) → if_failed (try_onto [] (cut_by noun_step2c2 (uncut n) o)) (first_of (if_open k old_by_step1a ∷ old_behind_step1a k))
          ≡ try_onto [] (if_failed (cut_by noun_step2c2 (uncut n) o) (first_of rest))
      go none = from_step1a ∙ rest_agree (uncut n)
      go (some r) = refl

  noun_agrees : old_noun k (old_uncut n) ≡ try_onto [] (noun k (uncut n))
  unfolding old_noun noun ◌then_try◌
  noun_agrees = ap (λ (t : Try OldCutting). and_then t (keeping (cut noun_step3))) choices_agree
      ∙ then_agrees (keeping (cut noun_step3)) (cut noun_step3) (agree_cut noun_step3) (first_of (noun_choices k noun_by_step1b) (uncut n))

  nouns_agree : first_of (old_noun k ∷ keeping maqsura ∷ []) (old_uncut n) ≡ try_onto [] (first_of (noun k ∷ maqsura ∷ []) (uncut n))
  unfolding first_of
  nouns_agree = ap (λ (t : Try OldCutting). if_failed t (first_of (keeping maqsura ∷ []))) noun_agrees
      ∙ or_agrees (first_of (keeping maqsura ∷ [])) (first_of (maqsura ∷ [])) (agree_first (keeping maqsura ∷ []) (maqsura ∷ []) (agree_maqsura, tt)) (noun k (uncut n))

idle_1a : (n : Word) → taken (ends_with n) suffix_step1a (length n) ≡ none → old_by_step1a (old_uncut n) ≡ failed (old_uncut n)
unfolding ◌then_try◌ cut_step1a
idle_1a n e = ap (λ (o : Option ℕ). and_then (cut_step1a_by (old_uncut n) o) (first_of old_after_step1a)) e

-- ---- item 3
pub endings_agree : (k : Kind) (n : Word) → old_endings k n ≡ try_onto [] (all_endings k n)
unfolding old_endings_by first_of
endings_agree DEFINED n = nouns_agree DEFINED n refl
endings_agree OPEN n = go (verb (uncut n)) refl
  where
    go : (t : Try Cutting) → verb (uncut n) ≡ t
        → if_failed (try_onto [] t) (first_of (old_noun OPEN ∷ keeping maqsura ∷ [])) ≡ try_onto [] (if_failed t (first_of (noun OPEN ∷ maqsura ∷ [])))
    go (done v) e = refl
    go (failed v) e = subst
        (λ (x : Cutting). first_of (old_noun OPEN ∷ keeping maqsura ∷ []) (onto [] x) ≡ try_onto [] (first_of (noun OPEN ∷ maqsura ∷ []) x))
        (sym (verb-failed (uncut n) v e)) (nouns_agree OPEN n (idle_1a n (none_by_verb (uncut n) suffix_step1a covered v e)))

-- ---- the reason
taken_1a : (n : Word) (x : OldCutting) → cut_step1a (old_uncut n) ≡ done x → (r : ℕ) × (taken (ends_with n) suffix_step1a (length n) ≡ some r)
unfolding cut_step1a
taken_1a n x e = go (taken (ends_with n) suffix_step1a (length n)) refl
  where
    go : (o : Option ℕ) → taken (ends_with n) suffix_step1a (length n) ≡ o → (r : ℕ) × (taken (ends_with n) suffix_step1a (length n) ≡ some r)
    go (some r) q = (r, q)
    go none q =
        let p : failed (old_uncut n) ≡ done x = ap (cut_step1a_by (old_uncut n)) (sym q) ∙ e in
        let z : ◌≡◌ {A = ℕ} 0 1 = cc in
        absurd (omega arith)

pub reason : (w : Word) → kind w ≡ OPEN → (x : OldCutting) → cut_step1a (old_uncut (normalise w)) ≡ done x
    → (v : Cutting) × (verb (uncut (normalise w)) ≡ done v) × (old_endings (kind w) (normalise w) ≡ done (onto [] v))
unfolding first_of
reason w k x e =
    let n : Word = normalise w in
    let r = taken_1a n x e in
    let t = taken_by_verb (uncut n) suffix_step1a covered r.0 r.1 in (
      t.0,
      t.1,
      ap (λ (j : Kind). old_endings j n) k
          ∙ endings_agree OPEN n
          ∙ ap (λ (y : Try Cutting). try_onto [] (if_failed y (first_of (noun OPEN ∷ maqsura ∷ [])))) t.1,
    )

-- ---- stem, kind and chain
after-onto : (t : Try Cutting) → after (try_onto [] t) ≡ onto [] (after t)
after-onto (done v) = refl
after-onto (failed v) = refl

left_agree : (k : Kind) (n : Word) → after (old_endings k n) ≡ onto [] (after (all_endings k n))
left_agree k n = ap after (endings_agree k n) ∙ after-onto (all_endings k n)

turned : (cs ds : List Cut) → reverse_aux (map as_old cs) (map as_old ds) ≡ map as_old (reverse_aux cs ds)
turned [] ds = refl
turned (c ∷ cs) ds = turned cs (c ∷ ds)

same-cuts : (k : Kind) (n : Word) → (after (old_endings k n)).cuts ≡ map as_old (cutting k n).cuts
same-cuts k n =
    ap (λ (v : OldCutting). v.cuts) (left_agree k n)
    ∙ append-nil (map as_old (after (all_endings k n)).cuts)
    ∙ ap (λ (v : Cutting). map as_old v.cuts) (all-endings k n)

pub equal : (w : Word) → (old_stem w ≡ stem w) × (old_kind w ≡ kind w) × (old_chain w ≡ map as_old (chain w))
unfolding old_way stem old_chain chain cuts
equal w = (
  ap (λ (v : OldCutting). finish (text (fronts (kind w) v.text))) (left_agree (kind w) (normalise w)),
  refl,
  ap reverse (same-cuts (kind w) (normalise w)) ∙ turned (cuts w) [],
)

abbrev unkept : OldStep → SuffixStep
unkept (kept s) = s
unkept noun_step1a = noun_step3

pub as_old_one : (c d : Cut) → as_old c ≡ as_old d → c ≡ d
as_old_one c d e = λ i. record { step = unkept (e i).step; row = (e i).row }

-- ---- no cut by Step1a
kept-all : (cs : List Cut) → AllSteps not_step1a (map as_old cs)
kept-all [] = tt
kept-all (c ∷ cs) = (tt, kept-all cs)

pub no_step1a : (k : Kind) (n : Word) → AllSteps not_step1a (after (old_endings k n)).cuts
no_step1a k n = subst (AllSteps not_step1a) (sym (same-cuts k n)) (kept-all (cutting k n).cuts)
