-- Of the fronts, a defined word meets Step3a_Noun alone. Assumes nothing.
use mathlib.Core.Path.{◌≡◌, refl, sym, ap, ◌∙◌, subst}
use mathlib.Core.Bool.{Bool, true, false, not}
use mathlib.Core.Logic.{◌⊎◌, inl, inr}
use mathlib.Core.List.{[], ◌∷◌, ◌++◌}
use mathlib.Core.Option.{Option, none, some}
use Prim.Native.Nat.{ℕ, zero, suc, ◌≤◌, ◌<◌, min}
use native.Mathlib.Omega.{arith}
use lib.Dec.{eqb}
use lib.ListN.{length, drop, get_or}
use Rattle.definition.specs.Letters.{alef, beh, kaf, lam, alef_maksura}
use Rattle.definition.specs.Words.{Word, every, same, begins_with}
use Rattle.definition.specs.Tables.{Row, A_0, A_3, A_4, A_5, A_7}
use Rattle.definition.specs.Search.{rule, row_at, longer, longest, taken}
use Rattle.definition.specs.Tries.{Step, Try, done, failed, after, ◌then_try◌, in_turn, first_of, attempt}
use Rattle.definition.specs.Kind.{Kind, OPEN, DEFINED, kind_by, if_open, kind}
use Rattle.definition.specs.Normal.{gives, listed_for, given, normal, normalise}
use Rattle.definition.specs.Endings.{Cutting, endings, endings_leave, suffix_all_alef_maqsura, maqsura_if_failed}
use Rattle.definition.specs.Fronts.{PrefixStep, prefix_step1, prefix_step2, prefix_step3a_noun, prefix_step3b_noun, prefix, not_at, at, Fronting, change, begins_with_any, apply, prefix_step3_verb_in_turn, prefix_steps, started, fronts}
use Rattle.definition.specs.Stem.{cutting, fronting, applied}
use Rattle.definition.proofs.Match.{clash, either, either_not, begins_split, begins_of}
use Rattle.definition.proofs.Found.{taken_some, all_at}
use Rattle.definition.proofs.Cutting.{endings-kept}
use Rattle.definition.proofs.Leave.{endings_leave_lem}
use Rattle.order.specs.Defined.{Article, AllApplied}
use Rattle.order.proofs.Exchange.{Fails, first_fails, first_succeeds}
use Rattle.order.proofs.Fronts.{together, front_fits, any_begins, Takes, takes}

-- ---- the first two letters of a defined word, as those of a row of A_3
data Opening : ℕ → ℕ → Type 0 where
  alef-lam : Opening alef lam
  beh-alef : Opening beh alef
  kaf-alef : Opening kaf alef
  lam-lam : Opening lam lam

record Opened (w : Word) : Type 0 where
  a : ℕ
  b : ℕ
  rest : Word
  opening : Opening a b
  is : w ≡ a ∷ b ∷ rest

number : Kind → ℕ
number OPEN = 0
number DEFINED = 1

row_opened : (w : Word) (r : ℕ) → r < length A_3 → begins_with w (row_at A_3 r).letters ≡ true → Opened w
unfolding A_3
row_opened w zero h m = record { a = alef; b = lam; rest = drop 2 w; opening = alef-lam; is = begins_split w (alef ∷ lam ∷ []) m }
row_opened w (suc zero) h m = record { a = beh; b = alef; rest = lam ∷ drop 3 w; opening = beh-alef; is = begins_split w (beh ∷ alef ∷ lam ∷ []) m }
row_opened w (suc (suc zero)) h m = record { a = kaf; b = alef; rest = lam ∷ drop 3 w; opening = kaf-alef; is = begins_split w (kaf ∷ alef ∷ lam ∷ []) m }
row_opened w (suc (suc (suc zero))) h m = record { a = lam; b = lam; rest = drop 2 w; opening = lam-lam; is = begins_split w (lam ∷ lam ∷ []) m }
row_opened w (suc (suc (suc (suc r)))) h m = absurd (omega arith)

defined-opened : (w : Word) → kind w ≡ DEFINED → Opened w
unfolding kind number
defined-opened w e = go (taken (begins_with w) (rule A_3 (5 ∷ 4 ∷ [])) (length w)) refl e
  where
    go : (o : Option ℕ) → taken (begins_with w) (rule A_3 (5 ∷ 4 ∷ [])) (length w) ≡ o → kind_by o ≡ DEFINED → Opened w
    go none q k = let z : ◌≡◌ {A = ℕ} 0 1 = ap number k in absurd (omega arith)
    go (some r) q k =
        let tk = taken_some (begins_with w) (rule A_3 (5 ∷ 4 ∷ [])) (length w) r q in
        row_opened w r tk.inside tk.matches

-- ---- they are still there after items 2 and 3
letters_stay : (a b : ℕ) → Opening a b → (normal a ≡ a ∷ []) × (normal b ≡ b ∷ [])
unfolding normal given gives listed_for A_0 longest longer begins_with same
letters_stay a b alef-lam = (refl, refl)
letters_stay a b beh-alef = (refl, refl)
letters_stay a b kaf-alef = (refl, refl)
letters_stay a b lam-lam = (refl, refl)

normalise-opened : (w : Word) → Opened w → Opened (normalise w)
unfolding normalise
normalise-opened w o =
    let l = letters_stay o.a o.b o.opening in
    record {
      a = o.a;
      b = o.b;
      rest = normalise o.rest;
      opening = o.opening;
      is = ap normalise o.is ∙ (λ i. l.0 i ++ (l.1 i ++ normalise o.rest));
    }

front-opened : (n t u : Word) → n ≡ t ++ u → min (length n) 2 ≤ length t → Opened n → Opened t
front-opened n [] u e h o = let l = ap length o.is in absurd (omega arith)
front-opened n (x ∷ []) u e h o = let l = ap length o.is in absurd (omega arith)
front-opened n (x ∷ y ∷ t) u e h o =
    let both : o.a ∷ o.b ∷ o.rest ≡ x ∷ y ∷ (t ++ u) = sym o.is ∙ e in
    let p : o.a ≡ x = ap (λ (l : Word). get_or l 0 0) both in
    let q : o.b ≡ y = ap (λ (l : Word). get_or l 1 0) both in
    record { a = o.a; b = o.b; rest = t; opening = o.opening; is = (λ i. sym p i ∷ sym q i ∷ t) }

not_last : (a b : ℕ) → Opening a b → eqb b alef_maksura ≡ false
not_last a b alef-lam = refl
not_last a b beh-alef = refl
not_last a b kaf-alef = refl
not_last a b lam-lam = refl

maqsura-opened : (a b : ℕ) (rest : Word) → Opening a b → Opened (suffix_all_alef_maqsura (a ∷ b ∷ rest))
unfolding suffix_all_alef_maqsura
maqsura-opened a b [] o = record { a = a; b = b; rest = []; opening = o; is = rw (not_last a b o) refl }
maqsura-opened a b (c ∷ rest) o = record { a = a; b = b; rest = suffix_all_alef_maqsura (c ∷ rest); opening = o; is = refl }

if_opened : (y : Try Cutting) (t : Word) → Opened t → Opened (maqsura_if_failed y t)
unfolding maqsura_if_failed
if_opened (done v) t o = o
if_opened (failed v) t o = subst (λ (w : Word). Opened (suffix_all_alef_maqsura w)) (sym o.is) (maqsura-opened o.a o.b o.rest o.opening)

-- ---- the other fronts have no row for them
abbrev none_fits : PrefixStep → Word → Bool
none_fits s key = every (λ (m : Row). either (not (together key m.letters)) (begins_with_any key (not_at s))) (prefix s).table

opening_fits : (a b : ℕ) → Opening a b
    → (none_fits prefix_step1 (a ∷ b ∷ []) ≡ true) × (none_fits prefix_step2 (a ∷ b ∷ []) ≡ true) × (none_fits prefix_step3b_noun (a ∷ b ∷ []) ≡ true)
unfolding prefix not_at A_4 A_5 A_7 begins_with same
opening_fits a b alef-lam = (refl, refl, refl)
opening_fits a b beh-alef = (refl, refl, refl)
opening_fits a b kaf-alef = (refl, refl, refl)
opening_fits a b lam-lam = (refl, refl, refl)

fails_at : (s : PrefixStep) (f : Fronting) (key : Word) → none_fits s key ≡ true → begins_with f.rest key ≡ true → Fails (apply s) f
fails_at s f key c p = go (takes s f)
  where
    go : Takes s f ⊎ Fails (apply s) f → Fails (apply s) f
    go (inr q) = q
    go (inl u) =
        let m : Word = (row_at (prefix s).table u.row).letters in
        let x = all_at _ (prefix s).table c u.row u.taken.inside in
        let y = either_not (together key m) _ (front_fits f.rest key m p u.taken.matches) x in
        absurd (clash (any_begins f.rest key (not_at s) p y) u.allowed)

-- ---- the fronts of a defined word
abbrev verbs : Step Fronting
verbs = if_open DEFINED (in_turn prefix_step3_verb_in_turn)

opened-fronts : (t : Word) → Opened t → AllApplied Article (fronts DEFINED t).applied
unfolding fronts prefix_steps ◌then_try◌ attempt started first_of change
opened-fronts t o =
    let key : Word = o.a ∷ o.b ∷ [] in
    let p : begins_with t key ≡ true = begins_of t key o.rest o.is in
    let c = opening_fits o.a o.b o.opening in
    let one = fails_at prefix_step1 (started t) key c.0 p in
    let two = fails_at prefix_step2 (started t) key c.1 p in
    let third : after (apply prefix_step2 (after (apply prefix_step1 (started t)))) ≡ started t =
    ap (λ (x : Try Fronting). after (apply prefix_step2 (after x))) one ∙ ap after two in
    subst (λ (f : Fronting). AllApplied Article (after (first_of (apply prefix_step3a_noun ∷ apply prefix_step3b_noun ∷ verbs ∷ []) f)).applied)
    (sym third) (go (fails_at prefix_step3b_noun (started t) key c.2 p) (takes prefix_step3a_noun (started t)))
  where
    go : Fails (apply prefix_step3b_noun) (started t) → Takes prefix_step3a_noun (started t) ⊎ Fails (apply prefix_step3a_noun) (started t)
        → AllApplied Article (after (first_of (apply prefix_step3a_noun ∷ apply prefix_step3b_noun ∷ verbs ∷ []) (started t))).applied
    go b (inl u) = subst (λ (x : Try Fronting). AllApplied Article (after x).applied)
        (sym (first_succeeds (apply prefix_step3a_noun) (apply prefix_step3b_noun ∷ verbs ∷ []) (started t) (change prefix_step3a_noun (started t) (at prefix_step3a_noun u.row), u.changes)))
        (tt, tt)
    go b (inr q) = subst (λ (x : Try Fronting). AllApplied Article (after x).applied)
        (sym (first_fails (apply prefix_step3a_noun) (apply prefix_step3b_noun ∷ verbs ∷ []) (started t) q ∙ first_fails (apply prefix_step3b_noun) (verbs ∷ []) (started t) b ∙ first_fails verbs [] (started t) refl))
        tt

pub defined-fronts : (w : Word) → kind w ≡ DEFINED → AllApplied Article (applied w)
unfolding applied fronting cutting
defined-fronts w e =
    let n : Word = normalise w in
    let k = endings-kept n (kind w) in
    subst (λ (x : Kind). AllApplied Article (fronts x (endings_leave (kind w) n)).applied) (sym e)
    (opened-fronts _ (subst Opened (sym (endings_leave_lem (kind w) n)) (if_opened (endings (kind w) n) (after (endings (kind w) n)).text (front-opened n _ _ k.whole k.least (normalise-opened w (defined-opened w e))))))
