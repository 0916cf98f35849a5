-- A defined word loses at most four letters and three endings behind, and some cuts are in defined words only: where they would be made, the verb, which an open word tries before, succeeds. Assumes nothing.
use mathlib.Core.Path.{◌≡◌, refl, sym, subst}
use mathlib.Core.Bool.{Bool, true}
use mathlib.Core.List.{List, [], ◌∷◌, reverse_aux}
use mathlib.Core.Option.{some}
use Prim.Native.Nat.{ℕ, ◌+◌, ◌≤◌, ◌<◌}
use native.Mathlib.Omega.{arith}
use lib.Dec.{leb}
use lib.ListN.{length, length-append}
use borrow.Author.Tests.{leb-true}
use Rattle.definition.specs.Letters.{yeh}
use Rattle.definition.specs.Words.{Word, every, same, ends_with}
use Rattle.definition.specs.Tables.{Row, A_11, A_12, A_13, A_14, A_15, A_16, A_17, A_18}
use Rattle.definition.specs.Search.{row_at, longer, longest, taken}
use Rattle.definition.specs.Tries.{Step, Try, done, failed, after, nothing, if_failed, first_of}
use Rattle.definition.specs.Kind.{Kind, OPEN, DEFINED, if_open, kind}
use Rattle.definition.specs.Normal.{normalise}
use Rattle.definition.specs.Endings.{SuffixStep, verb_step1, verb_step2a, verb_step2b, verb_step2c, noun_step1b, noun_step2a, noun_step2b, noun_step2c1, noun_step2c2, noun_step3, suffix, Cut, Cutting, ending, joined, uncut, cut_off, cut, after_noun_step1b, noun_by_step1b, verb, noun, endings}
use Rattle.definition.specs.Stem.{cutting, cuts, chain, back}
use Rattle.definition.specs.Facts.{Idle, AllCuts}
use Rattle.definition.specs.Depends.{yeh_row, OnlyDefined}
use Rattle.definition.proofs.Found.{taken_some, all_at}
use Rattle.definition.proofs.Triples.{Ends, Does, Keeps, ends-after, weaker, does_then, does_or, does_last}
use Rattle.definition.proofs.Cutting.{Verbal, Nominal, cut_at, cut_does, verb_keeps}
use Rattle.definition.proofs.Cover.{covers, cover}
use Rattle.definition.proofs.Verb.{covered_by_verb, verb-failed, verb_idle, verb-done, not_by_verb}

-- ---- how much goes behind

-- the most that a cut of the step adds to what is gone, where Step2b adds b and any other step of the noun 1
abbrev adds : ℕ → SuffixStep → ℕ
adds b verb_step1 = 0
adds b verb_step2a = 0
adds b verb_step2b = 0
adds b verb_step2c = 0
adds b noun_step1b = 1
adds b noun_step2a = 1
adds b noun_step2b = b
adds b noun_step2c1 = 1
adds b noun_step2c2 = 1
adds b noun_step3 = 1

-- what is gone, in letters or in endings, and the most that a cut adds to it
module _ (gone : List Cut → ℕ) (b : ℕ) (some1 : 1 ≤ b) (none1 : gone [] ≡ 0)
    (more : (s : SuffixStep) → Nominal s → (r : ℕ) → r < length (suffix s).table → (cs : List Cut) → gone (record { step = s; row = r } ∷ cs) ≤ gone cs + adds b s) where
  abbrev Gone : ℕ → Cutting → Type 0
  Gone l v = gone v.cuts ≤ l

  -- with at most l gone before a step, at most d are where it cuts, and at most f where it fails
  cut-gone : (l d f : ℕ) (s : SuffixStep) → Nominal s → l + adds b s ≤ d → l ≤ f → Does (Gone l) (Gone d) (Gone f) (cut s)
  unfolding cut_off
  cut-gone l d f s nominal hd hf v p =
      weaker (Gone d) (Gone l) (Gone d) (Gone f) (λ x q. q) (λ x q. omega (arith, q)) (cut s v)
      (cut_does (Gone l) (Gone d) s (λ u r e h. omega (arith, h, more s nominal r (taken_some (ends_with u.text) (suffix s) (length u.text) r e).inside u.cuts)) v p)

  -- one more alternative that is such a step
  or_gone : (l d f : ℕ) (s : SuffixStep) (fs : List (Step Cutting)) → Nominal s → l + adds b s ≤ d
      → Does (Gone l) (Gone d) (Gone f) (first_of fs) → Does (Gone l) (Gone d) (Gone f) (first_of (cut s ∷ fs))
  or_gone l d f s fs nominal hd = does_or (Gone l) (Gone d) (Gone f) (Gone l) (cut s) fs (cut-gone l d l s nominal hd (omega arith))

  -- Step1b takes 1, and its sequel b at most
  step1b-gone : Does (Gone 0) (Gone (1 + b)) (Gone 1) noun_by_step1b
  step1b-gone = does_then (Gone 0) (Gone (1 + b)) (Gone 1) (Gone 1) (cut noun_step1b) (first_of after_noun_step1b) (cut-gone 0 1 1 noun_step1b (λ z. z) (omega arith) (omega arith))
      (or_gone 1 (1 + b) 1 noun_step2a _ (λ z. z) (omega arith)
      (or_gone 1 (1 + b) 1 noun_step2b _ (λ z. z) (omega arith)
      (or_gone 1 (1 + b) 1 noun_step2c1 [] (λ z. z) (omega arith)
      (does_last (Gone 1) (Gone (1 + b))))))

  -- where Step1b and Step2b have taken 1 + b, Step3 takes 1 more
  noun-gone : Does (Gone 0) (Gone (2 + b)) (Gone (2 + b)) (noun DEFINED)
  unfolding noun
  noun-gone = does_then (Gone 0) (Gone (2 + b)) (Gone (2 + b)) (Gone (1 + b)) _ (cut noun_step3)
      (or_gone 0 (1 + b) (2 + b) noun_step2c2 _ (λ z. z) (omega arith)
      (does_or (Gone 0) (Gone (1 + b)) (Gone (2 + b)) (Gone 1) noun_by_step1b _ step1b-gone
      (does_or (Gone 1) (Gone (1 + b)) (Gone (2 + b)) (Gone 1) (if_open DEFINED (cut noun_step2a)) _ (λ v h. h)
      (or_gone 1 (1 + b) (2 + b) noun_step2b _ (λ z. z) (omega arith)
      (does_or (Gone 1) (Gone (1 + b)) (Gone (2 + b)) (Gone (2 + b)) nothing [] (λ v h. omega (arith, h)) (does_last (Gone (2 + b)) (Gone (1 + b))))))))
      (cut-gone (1 + b) (2 + b) (2 + b) noun_step3 (λ z. z) (omega arith) (omega arith))

  at_most : (w : Word) → kind w ≡ DEFINED → gone (cuts w) ≤ 2 + b
  unfolding cuts cutting endings
  at_most w e = subst (λ (k : Kind). gone (cutting k (normalise w)).cuts ≤ 2 + b) (sym e)
      (ends-after (Gone (2 + b)) (endings DEFINED (normalise w))
      (does_or (Gone 0) (Gone (2 + b)) (Gone (2 + b)) (Gone 0) (if_open DEFINED verb) (noun DEFINED ∷ []) (λ v h. h)
      (does_or (Gone 0) (Gone (2 + b)) (Gone (2 + b)) (Gone (2 + b)) (noun DEFINED) [] noun-gone (does_last (Gone (2 + b)) (Gone (2 + b))))
      (uncut (normalise w)) (omega (arith, none1))))

-- in letters: the rows of Step2b have two letters, those of the others one
abbrev within : ℕ → Row → Bool
within m k = leb (length k.letters) m

rows_within : (s : SuffixStep) → Nominal s → every (within (adds 2 s)) (suffix s).table ≡ true
unfolding suffix A_11 A_12 A_13 A_14 A_15 A_16
rows_within verb_step1 z = absurd (z tt)
rows_within verb_step2a z = absurd (z tt)
rows_within verb_step2b z = absurd (z tt)
rows_within verb_step2c z = absurd (z tt)
rows_within noun_step1b z = refl
rows_within noun_step2a z = refl
rows_within noun_step2b z = refl
rows_within noun_step2c1 z = refl
rows_within noun_step2c2 z = refl
rows_within noun_step3 z = refl

pub at_most_four : (w : Word) → kind w ≡ DEFINED → length (back w) ≤ 4
unfolding back joined ending
at_most_four = at_most (λ cs. length (joined cs)) 2 (omega arith) refl
    (λ s nominal r h cs.
    let key : Word = (row_at (suffix s).table r).letters in
    let t = leb-true (length key) (adds 2 s) (all_at (within (adds 2 s)) (suffix s).table (rows_within s nominal) r h) in
    omega (arith, t, length-append key (joined cs)))

-- in endings
more-one : (s : SuffixStep) → Nominal s → 1 ≤ adds 1 s
more-one verb_step1 z = absurd (z tt)
more-one verb_step2a z = absurd (z tt)
more-one verb_step2b z = absurd (z tt)
more-one verb_step2c z = absurd (z tt)
more-one noun_step1b z = omega arith
more-one noun_step2a z = omega arith
more-one noun_step2b z = omega arith
more-one noun_step2c1 z = omega arith
more-one noun_step2c2 z = omega arith
more-one noun_step3 z = omega arith

pub at_most_three : (w : Word) → kind w ≡ DEFINED → length (cuts w) ≤ 3
at_most_three = at_most length 1 (omega arith) refl (λ s nominal r h cs. omega (arith, more-one s nominal))

-- ---- which cuts an open word has

-- the cut may be made in a word of the kind k
abbrev Allowed : Kind → SuffixStep → ℕ → Type 0
Allowed k s r = OnlyDefined s r → k ≡ DEFINED

-- every cut so far may be made in an open word
abbrev Free : Cutting → Type 0
Free v = AllCuts (Allowed OPEN) v.cuts

cut_free : (s : SuffixStep) → ((r : ℕ) → Allowed OPEN s r) → Keeps Free (cut s)
unfolding cut_off
cut_free s f = cut_does Free Free s (λ v r e h. (f r, h))

-- the verb has no such cut
verb-cuts : (s : SuffixStep) → Verbal s → Keeps Free (cut s)
verb-cuts verb_step1 t = cut_free verb_step1 (λ r z. absurd z)
verb-cuts verb_step2a t = cut_free verb_step2a (λ r z. absurd z)
verb-cuts verb_step2b t = cut_free verb_step2b (λ r z. absurd z)
verb-cuts verb_step2c t = cut_free verb_step2c (λ r z. absurd z)
verb-cuts noun_step1b z = absurd z
verb-cuts noun_step2a z = absurd z
verb-cuts noun_step2b z = absurd z
verb-cuts noun_step2c1 z = absurd z
verb-cuts noun_step2c2 z = absurd z
verb-cuts noun_step3 z = absurd z

-- ---- where the verb has failed
pub covered_1b : covered_by_verb (suffix noun_step1b) ≡ true
unfolding suffix A_11 A_17 A_18 ends_with same longest longer
covered_1b = refl

covered_2b : covered_by_verb (suffix noun_step2b) ≡ true
unfolding suffix A_13 A_17 A_18 ends_with same longest longer
covered_2b = refl

covered_2c1 : covered_by_verb (suffix noun_step2c1) ≡ true
unfolding suffix A_14 A_17 A_18 ends_with same longest longer
covered_2c1 = refl

covered_yeh : covers (suffix verb_step2a) (yeh ∷ []) 5 ≡ true
unfolding suffix A_18 ends_with same longest longer
covered_yeh = refl

module _ (w v : Cutting) (e : verb w ≡ failed v) where
  -- the step takes the row r of w
  abbrev Takes : SuffixStep → ℕ → Type 0
  Takes s r = taken (ends_with w.text) (suffix s) (length w.text) ≡ some r

  not_yeh : Takes noun_step2a yeh_row → ⊥
  unfolding suffix A_12
  not_yeh p =
      let t = taken_some (ends_with w.text) (suffix noun_step2a) (length w.text) yeh_row p in
      cover (suffix verb_step2a) w.text (yeh ∷ []) 5 (length w.text) covered_yeh t.matches t.enough (verb_idle w v e)

  -- no such cut is made
  not_taken : (s : SuffixStep) (r : ℕ) → OnlyDefined s r → Takes s r → ⊥
  not_taken verb_step1 r z p = z
  not_taken verb_step2a r z p = z
  not_taken verb_step2b r z p = z
  not_taken verb_step2c r z p = z
  not_taken noun_step1b r z p = not_by_verb w (suffix noun_step1b) covered_1b r p v e
  not_taken noun_step2a r z p = not_yeh (subst (Takes noun_step2a) z p)
  not_taken noun_step2b r z p = not_by_verb w (suffix noun_step2b) covered_2b r p v e
  not_taken noun_step2c1 r z p = not_by_verb w (suffix noun_step2c1) covered_2c1 r p v e
  not_taken noun_step2c2 r z p = z
  not_taken noun_step3 r z p = z

pub verb-before : (n : Word) (s : SuffixStep) (r : ℕ) → OnlyDefined s r → taken (ends_with n) (suffix s) (length n) ≡ some r → (v : Cutting) × (verb (uncut n) ≡ done v)
verb-before n s r d p = verb-done (uncut n) (λ v e. not_taken (uncut n) v e s r d p)

-- ---- the noun of an open word n
module _ (n : Word) (v : Cutting) (e : verb (uncut n) ≡ failed v) where
  abbrev Here : Cutting → Type 0
  Here x = x ≡ uncut n

  abbrev Never : Cutting → Type 0
  Never x = ⊥

  -- a step at n, by what it takes there
  here_does : (Q : Cutting → Type 0) (s : SuffixStep) → ((r : ℕ) → Takes (uncut n) v e s r → Q (cut_off (uncut n) (record { step = s; row = r }))) → Does Here Q Here (cut s)
  here_does Q s f x q = weaker Q (λ (y : Cutting). (y ≡ uncut n) × Idle s (uncut n)) Q Here (λ y p. p) (λ y p. p.0) (cut s x) (cut_at (uncut n) Q s f x q)

  here_free : (s : SuffixStep) → Does Here Free Here (cut s)
  unfolding cut_off
  here_free s = here_does Free s (λ r p. ((λ z. absurd (not_taken (uncut n) v e s r z p)), tt))

  -- behind Step1b nothing is reached
  step1b_free : Does Here Free Here noun_by_step1b
  step1b_free = does_then Here Free Here Never (cut noun_step1b) (first_of after_noun_step1b) (here_does Never noun_step1b (λ r p. not_taken (uncut n) v e noun_step1b r tt p)) (λ x z. absurd z)

  noun_free : Does Here Free Free (noun OPEN)
  unfolding noun
  noun_free = does_then Here Free Free Free _ (cut noun_step3)
      (does_or Here Free Free Here (cut noun_step2c2) _ (here_free noun_step2c2)
      (does_or Here Free Free Here noun_by_step1b _ step1b_free
      (does_or Here Free Free Here (if_open OPEN (cut noun_step2a)) _ (here_free noun_step2a)
      (does_or Here Free Free Here (cut noun_step2b) _ (here_free noun_step2b)
      (does_or Here Free Free Never nothing [] (λ x q. subst Free (sym q) tt) (λ x z. absurd z))))))
      (cut_free noun_step3 (λ r z. absurd z))

open_free : (n : Word) → Free (cutting OPEN n)
unfolding cutting endings first_of
open_free n = go (verb (uncut n)) refl
  where
    go : (t : Try Cutting) → verb (uncut n) ≡ t → Free (after (if_failed t (first_of (noun OPEN ∷ []))))
    go (done v) e = subst (Ends Free Free) e (verb_keeps Free verb-cuts (uncut n) tt)
    go (failed v) e = subst (λ (x : Cutting). Free (after (first_of (noun OPEN ∷ []) x))) (sym (verb-failed (uncut n) v e))
        (ends-after Free (first_of (noun OPEN ∷ []) (uncut n)) (does_or (λ (x : Cutting). x ≡ uncut n) Free Free Free (noun OPEN) [] (noun_free n v e) (does_last Free Free) (uncut n) refl))

-- ---- of every word
module _ (P : SuffixStep → ℕ → Type 0) where
  turned : (cs ds : List Cut) → AllCuts P cs → AllCuts P ds → AllCuts P (reverse_aux cs ds)
  turned [] ds h g = g
  turned (c ∷ cs) ds h g = turned cs (c ∷ ds) h.1 (h.0, g)

  every-cut : ((s : SuffixStep) (r : ℕ) → P s r) → (cs : List Cut) → AllCuts P cs
  every-cut f [] = tt
  every-cut f (c ∷ cs) = (f c.step c.row, every-cut f cs)

by_kind : (k : Kind) (n : Word) → AllCuts (Allowed k) (cutting k n).cuts
by_kind OPEN n = open_free n
by_kind DEFINED n = every-cut (Allowed DEFINED) (λ s r d. refl) (cutting DEFINED n).cuts

pub only_defined : (w : Word) → AllCuts (λ (s : SuffixStep) (r : ℕ). OnlyDefined s r → kind w ≡ DEFINED) (chain w)
unfolding chain cuts
only_defined w = turned (Allowed (kind w)) (cutting (kind w) (normalise w)).cuts [] (by_kind (kind w) (normalise w)) tt

pub only_these : (r : ℕ) → OnlyDefined noun_step1b r × OnlyDefined noun_step2b r × OnlyDefined noun_step2c1 r × OnlyDefined noun_step2a yeh_row × ((row_at A_12 yeh_row).letters ≡ yeh ∷ [])
unfolding A_12
only_these r = (tt, tt, tt, refl, refl)
