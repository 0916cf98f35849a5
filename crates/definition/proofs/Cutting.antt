-- The endings: the word is what is left and the rows cut, each row is listed and was cut in its turn, and two letters stay. Assumes nothing.
use mathlib.Core.Path.{◌≡◌, refl, sym, ap, ◌∙◌, subst}
use mathlib.Core.Bool.{Bool, true}
use mathlib.Core.List.{List, [], ◌∷◌, ◌++◌, reverse, reverse_aux, append_assoc, append-nil}
use mathlib.Core.Option.{Option, none, some}
use Prim.Native.Nat.{ℕ, ◌+◌, ◌-◌, ◌≤◌, ◌<◌, min}
use native.Mathlib.Omega.{arith}
use lib.Dec.{leb}
use lib.ListN.{length, take, length-append}
use lib.Seq.{take_at}
use borrow.Author.Tests.{leb-true}
use Rattle.definition.specs.Words.{Word, both, every, ends_with}
use Rattle.definition.specs.Tables.{Row, A_11, A_12, A_13, A_14, A_15, A_16, A_17, A_18, A_19, A_20}
use Rattle.definition.specs.Search.{row_at, least_letters, taken}
use Rattle.definition.specs.Tries.{after, nothing}
use Rattle.definition.specs.Kind.{Kind}
use Rattle.definition.specs.Endings.{SuffixStep, verb_step1, verb_step2a, verb_step2b, verb_step2c, noun_step1b, noun_step2a, noun_step2b, noun_step2c1, noun_step2c2, noun_step3, suffix, Cut, Cutting, ending, joined, cut_off, cut_by, cut, verb, noun, endings, uncut}
use Rattle.definition.specs.Stem.{without}
use Rattle.definition.specs.Demand3.{CutFrom, CutInTurn}
use Rattle.definition.specs.Facts.{Idle}
use Rattle.definition.proofs.Match.{both_0, both_1, ends_split}
use Rattle.definition.proofs.Found.{Taken, taken_some, all_at}
use Rattle.definition.proofs.Triples.{Ends, Does, Keeps, weaker, keeps_first, keeps_then, keeps_if, does_again, ends-after}

-- ---- one step: it cuts the row that it takes, or fails and changes nothing
pub cut_at : (w : Cutting) (Q : Cutting → Type 0) (s : SuffixStep)
    → ((r : ℕ) → taken (ends_with w.text) (suffix s) (length w.text) ≡ some r → Q (cut_off w (record { step = s; row = r })))
    → Does (λ (v : Cutting). v ≡ w) Q (λ (v : Cutting). (v ≡ w) × Idle s w) (cut s)
unfolding cut
cut_at w Q s f v q = subst (λ (u : Cutting). Ends Q (λ (x : Cutting). (x ≡ w) × Idle s w) (cut s u)) (sym q) (go (taken (ends_with w.text) (suffix s) (length w.text)) refl)
  where
    go : (o : Option ℕ) → taken (ends_with w.text) (suffix s) (length w.text) ≡ o → Ends Q (λ (x : Cutting). (x ≡ w) × Idle s w) (cut_by s w o)
    go none e = (refl, e)
    go (some r) e = f r e

pub cut_does : (P Q : Cutting → Type 0) (s : SuffixStep)
    → ((v : Cutting) (r : ℕ) → taken (ends_with v.text) (suffix s) (length v.text) ≡ some r → P v → Q (cut_off v (record { step = s; row = r })))
    → Does P Q P (cut s)
cut_does P Q s f v p = weaker Q (λ (x : Cutting). (x ≡ v) × Idle s v) Q P (λ x q. q) (λ x h. subst P (sym h.0) p) (cut s v) (cut_at v Q s (λ r e. f v r e p) v refl)

-- a step of the verb, a step of the noun
abbrev pub Verbal : SuffixStep → Type 0
Verbal verb_step1 = Unit {0}
Verbal verb_step2a = Unit {0}
Verbal verb_step2b = Unit {0}
Verbal verb_step2c = Unit {0}
Verbal noun_step1b = ⊥
Verbal noun_step2a = ⊥
Verbal noun_step2b = ⊥
Verbal noun_step2c1 = ⊥
Verbal noun_step2c2 = ⊥
Verbal noun_step3 = ⊥

abbrev pub Nominal : SuffixStep → Type 0
Nominal s = Verbal s → ⊥

nothing_keeps : (P : Cutting → Type 0) → Keeps P nothing
nothing_keeps P v p = p

-- ---- what every cut of the verb keeps, the verb keeps; likewise the noun
pub verb_keeps : (P : Cutting → Type 0) → ((s : SuffixStep) → Verbal s → Keeps P (cut s)) → Keeps P verb
unfolding verb
verb_keeps P cut_Keeps v =
    keeps_first P _ (
      keeps_then P _ _
          (keeps_then P _ _ (cut_Keeps verb_step1 tt) (does_again P P (length v.text) (cut verb_step1) (cut_Keeps verb_step1 tt)))
          (keeps_first P _ (cut_Keeps verb_step2a tt, (cut_Keeps verb_step2c tt, (nothing_keeps P, tt)))),
      (cut_Keeps verb_step2b tt, (cut_Keeps verb_step2a tt, tt)),
    ) v

pub noun_keeps : (P : Cutting → Type 0) → ((s : SuffixStep) → Nominal s → Keeps P (cut s)) → (k : Kind) → Keeps P (noun k)
unfolding noun
noun_keeps P cut_Keeps k =
    keeps_then P _ _
    (keeps_first P _ (
      cut_Keeps noun_step2c2 (λ z. z),
      (
        keeps_then P _ _ (cut_Keeps noun_step1b (λ z. z)) (keeps_first P _ (cut_Keeps noun_step2a (λ z. z), (cut_Keeps noun_step2b (λ z. z), (cut_Keeps noun_step2c1 (λ z. z), tt)))),
        (keeps_if P k _ (cut_Keeps noun_step2a (λ z. z)), (cut_Keeps noun_step2b (λ z. z), (nothing_keeps P, tt))),
      ),
    ))
    (cut_Keeps noun_step3 (λ z. z))

-- and what both keep, all endings together keep
pub endings_keep : (P : Cutting → Type 0) (k : Kind) (n : Word) → Keeps P verb → Keeps P (noun k) → P (uncut n) → P (after (endings k n))
unfolding endings
endings_keep P k n v m p = ends-after P (endings k n) (keeps_first P _ (keeps_if P k verb v, (m, tt)) (uncut n) p)

-- ---- every row of an ending has a letter, and its guard is two letters more at least
abbrev fits : List ℕ → Row → Bool
fits least k = both (leb 1 (length k.letters)) (leb (length k.letters + 2) (least_letters least k.class))

rows_fit : (s : SuffixStep) → every (fits (suffix s).guards) (suffix s).table ≡ true
unfolding suffix A_11 A_12 A_13 A_14 A_15 A_16 A_17 A_18 A_19 A_20
rows_fit verb_step1 = refl
rows_fit verb_step2a = refl
rows_fit verb_step2b = refl
rows_fit verb_step2c = refl
rows_fit noun_step1b = refl
rows_fit noun_step2a = refl
rows_fit noun_step2b = refl
rows_fit noun_step2c1 = refl
rows_fit noun_step2c2 = refl
rows_fit noun_step3 = refl

module _ (s : SuffixStep) (r : ℕ) (h : r < length (suffix s).table) where
  abbrev row : Row
  row = row_at (suffix s).table r

  row_fits : fits (suffix s).guards row ≡ true
  row_fits = all_at (fits (suffix s).guards) (suffix s).table (rows_fit s) r h

  pub row_some : 1 ≤ length (row_at (suffix s).table r).letters
  row_some = leb-true 1 (length row.letters) (both_0 (leb 1 (length row.letters)) _ row_fits)

  row-least : length (row_at (suffix s).table r).letters + 2 ≤ least_letters (suffix s).guards (row_at (suffix s).table r).class
  row-least =
      leb-true (length row.letters + 2) (least_letters (suffix s).guards row.class) (both_1 (leb 1 (length row.letters)) _ row_fits)

pub without_is : (n t : Word) (cs : List Cut) → n ≡ t ++ joined cs → without n cs ≡ t
unfolding without
without_is n t cs e =
    let l : length n ≡ length t + length (joined cs) = ap length e ∙ length-append t (joined cs) in
    let m : length t ≡ length n - length (joined cs) = omega arith in
    ap (take (length n - length (joined cs))) e ∙ take_at t (joined cs) (length n - length (joined cs)) m

-- ---- cuts with the last one foremost, and the same in the order cut
pub CutBehind : Word → List Cut → Type 0
CutBehind n [] = Unit {0}
CutBehind n (c ∷ cs) = CutFrom n cs c × CutBehind n cs

turned : (n : Word) (cs later : List Cut) → CutBehind n cs → CutInTurn n cs later → CutInTurn n [] (reverse_aux cs later)
unfolding CutBehind CutInTurn
turned n [] later h g = g
turned n (c ∷ cs) later h g = turned n cs (c ∷ later) h.1 (h.0, g)

pub in_turn_lem : (n : Word) (cs : List Cut) → CutBehind n cs → CutInTurn n [] (reverse cs)
unfolding CutInTurn
in_turn_lem n cs h = turned n cs [] h tt

-- ---- what every cut keeps
pub record Kept (n : Word) (v : Cutting) : Type 0 where
  pub whole : n ≡ v.text ++ joined v.cuts
  pub cut : CutBehind n v.cuts
  pub least : min (length n) 2 ≤ length v.text
  pub fewer : length v.cuts ≤ length (joined v.cuts)

module _ (n : Word) where
  cut-kept : (s : SuffixStep) (v : Cutting) (r : ℕ) → taken (ends_with v.text) (suffix s) (length v.text) ≡ some r
      → Kept n v → Kept n (cut_off v (record { step = s; row = r }))
  unfolding cut_off ending joined CutBehind
  cut-kept s v r q k =
      let tk : Taken (ends_with v.text) (suffix s) (length v.text) r = taken_some (ends_with v.text) (suffix s) (length v.text) r q in
      let key : Word = (row_at (suffix s).table r).letters in
      let t : Word = take (length v.text - length key) v.text in
      let e : v.text ≡ t ++ key = ends_split v.text key tk.matches in
      let l : length v.text ≡ length t + length key = ap length e ∙ length-append t key in
      let some1 = row_some s r tk.inside in
      let low = row-least s r tk.inside in
      let enough = tk.enough in
      let is : without n v.cuts ≡ v.text = without_is n v.text v.cuts k.whole in
      record {
        whole = k.whole ∙ ap (λ (x : Word). x ++ joined v.cuts) e ∙ append_assoc t key (joined v.cuts);
        cut = (record { listed = tk.inside; long = rw is enough; taken = rw is q }, k.cut);
        least = omega arith;
        fewer = rw (length-append key (joined v.cuts)) (omega (arith, k.fewer));
      }

  cut_keeps_kept : (s : SuffixStep) → Keeps (Kept n) (cut s)
  cut_keeps_kept s = cut_does (Kept n) (Kept n) s (cut-kept s)

  kept-start : Kept n (uncut n)
  unfolding joined CutBehind
  kept-start = record { whole = sym (append-nil n); cut = tt; least = omega arith; fewer = omega arith }

  pub endings-kept : (k : Kind) → Kept n (after (endings k n))
  endings-kept k = endings_keep (Kept n) k n (verb_keeps (Kept n) (λ s t. cut_keeps_kept s)) (noun_keeps (Kept n) (λ s t. cut_keeps_kept s) k) kept-start
