-- The rows of the changes that an environment has noted. Assumes nothing.
use mathlib.Core.Path.{◌≡◌, refl, sym, ap, ◌∙◌, subst}
use Prim.Native.Nat.{ℕ, min, zero, suc, ◌+◌, ◌*◌, ◌/◌, ◌%◌, ◌≤◌, ◌<◌}
use native.Mathlib.Omega.{arith}
use mathlib.Core.Bool.{Bool, true}
use mathlib.Core.List.{List, [], ◌∷◌, ◌++◌, map, append_assoc, append-nil}
use lib.Dec.{eqb}
use lib.ListN.{length, drop, get_or, get_or-map, drop_of_length-le}
use lib.Seq.{drop-cons}
use borrow.Author.Tests.{eqb-true}
use Rattle.std.specs.List.{range_with_len}
use Rattle.std.specs.Borrow.{Bor}
use Rattle.std.proofs.lemmas.List.FromFn.{get_or-range_with_len, length-range_with_len}
use Rattle.definition.specs.Words.{pick, every}
use Rattle.definition.specs.Tables.{A_4, A_5, A_6, A_7, A_8, A_9, A_11, A_12, A_13, A_14, A_15, A_16, A_17, A_18, A_19, A_20}
use Rattle.definition.specs.Search.{row_at}
use Rattle.definition.specs.Endings.{verb_step1, verb_step2a, verb_step2b, verb_step2c, noun_step1b, noun_step2a, noun_step2b, noun_step2c1, noun_step2c2, noun_step3, suffix}
use Rattle.definition.specs.Fronts.{prefix_step1, prefix_step2, prefix_step3a_noun, prefix_step3b_noun, prefix_step3_verb, prefix_step4_verb, prefix, replacements}
use Rattle.definition.proofs.Match.{by, both_0, both_1}
use Rattle.utf8.specs.Spelt.{Encodes}
use Rattle.history.specs.Steps.{Step, floating_mark, normalize_pre, ending, alef_maqsura, front, normalize_post_last, normalize_post_other, name, table_of, Deed, row_of, put, put_for}
use Rattle.history.specs.Steps.{by as deed_by}
use Rattle.story.specs.declared.page.Page.{Page}
use Rattle.story.specs.Telling.{Tells, Fits, IsDeed, noted_steps, noted_step, InStep, noted_by, NotedAs, AllNoted}
use Rattle.story.proofs.Lines.{tells_none, tells_both, fits_first, fits_second}

-- n is the number k of a step
module _ (n row k : ℕ) (e : n ≡ k) (i : InStep n row) where
  pub row_below : row < length (table_of (noted_step k))
  row_below = subst (λ (m : ℕ). row < length (table_of (noted_step m))) e i.1

  pub row_spelt : (bytes : List ℕ) → Encodes bytes (row_at (table_of (noted_step k)) row).letters → Encodes bytes (row_of (deed_by (noted_step n) row))
  unfolding row_of
  row_spelt bytes b = subst (λ (m : ℕ). Encodes bytes (row_at (table_of (noted_step m)) row).letters) (sym e) b

-- ---- names
names_at : (ss : List Step) (k : ℕ) → k < length ss → get_or (map name ss) k [] ≡ name (get_or ss k floating_mark)
names_at [] k h = absurd (omega arith)
names_at (s ∷ ss) zero h = refl
names_at (s ∷ ss) (suc k) h = names_at ss k (omega arith)

-- the bytes behind the reference at the number of a step, where the references xs are to the names of the steps
pub name_at : (xs : List (Bor (List ℕ))) (i k : ℕ) (d : Bor (List ℕ)) → d.now ≡ [] → map (λ (b : Bor (List ℕ)). b.now) xs ≡ map name noted_steps → i ≡ k → k < 16 → (get_or xs i d).now ≡ name (noted_step k)
unfolding noted_step
name_at xs i k d e f q h = sym (get_or-map (λ (b : Bor (List ℕ)). b.now) xs i d) ∙ (λ j. get_or (f j) (q j) (e j)) ∙ names_at noted_steps k h

-- ---- letters that are put: what the code answers, and one test of it over all rows of all steps
abbrev pub code_put : ℕ → ℕ → ℕ
code_put n r = pick (eqb n 10) 1 (pick (eqb n 14) 1 (pick (eqb n 13) (min r 1) (pick (eqb n 15) 3 0)))

abbrev agree : ℕ → ℕ → Bool
agree n r = eqb (code_put n r) (length (put (deed_by (noted_step n) r)))

abbrev rows_agree : ℕ → Bool
rows_agree n = every (agree n) (range_with_len 0 (length (table_of (noted_step n))))

steps_agree : every rows_agree (range_with_len 0 16) ≡ true
unfolding noted_step put put_for table_of suffix prefix replacements A_4 A_5 A_6 A_7 A_8 A_9 A_11 A_12 A_13 A_14 A_15 A_16 A_17 A_18 A_19 A_20
steps_agree = refl

every_at : (f : ℕ → Bool) (xs : List ℕ) → every f xs ≡ true → (i : ℕ) → i < length xs → f (get_or xs i 0) ≡ true
every_at f [] e i h = absurd (omega arith)
every_at f (x ∷ xs) e zero h = both_0 (f x) (every f xs) e
every_at f (x ∷ xs) e (suc i) h = every_at f xs (both_1 (f x) (every f xs) e) i (omega arith)

in_range : (f : ℕ → Bool) (n : ℕ) → every f (range_with_len 0 n) ≡ true → (i : ℕ) → i < n → f i ≡ true
in_range f n e i h =
    let z : 0 + i ≡ i = omega arith in
    ap f (sym (get_or-range_with_len 0 n i 0 h ∙ z)) ∙ every_at f (range_with_len 0 n) e i (omega (arith, length-range_with_len 0 n))

pub put_is : (n r : ℕ) → InStep n r → code_put n r ≡ length (put (deed_by (noted_step n) r))
put_is n r i = eqb-true (code_put n r) _ (in_range (agree n) (length (table_of (noted_step n))) (in_range rows_agree 16 steps_agree n i.0) r i.1)

-- in its arms
module _ (n r : ℕ) where
  pub put_none : (n ≡ 10 → ⊥) → (n ≡ 14 → ⊥) → (n ≡ 13 → ⊥) → (n ≡ 15 → ⊥) → code_put n r ≡ 0
  put_none a b c d =
      by (eqb n 10) (λ t. absurd (a (eqb-true n 10 t)))
      (λ e. rw e
      (by (eqb n 14) (λ t. absurd (b (eqb-true n 14 t)))
      (λ f. rw f
      (by (eqb n 13) (λ t. absurd (c (eqb-true n 13 t)))
      (λ g. rw g
      (by (eqb n 15) (λ t. absurd (d (eqb-true n 15 t))) (λ h. rw h refl)))))))

  pub put_10 : n ≡ 10 → code_put n r ≡ 1
  put_10 e = rw e refl

  pub put_14 : n ≡ 14 → code_put n r ≡ 1
  put_14 e = rw e refl

  pub put_13 : n ≡ 13 → code_put n r ≡ min r 1
  put_13 e = rw e refl

  pub put_15 : n ≡ 15 → code_put n r ≡ 3
  put_15 e = rw e refl

-- ---- a change, by its number
-- the step and the row of the deed that is noted as n
pub record Read (d : Deed) (n : ℕ) : Type 0 where
  pub step : noted_step (n / 16) ≡ d.step
  pub row : n % 16 ≡ d.row
  pub small : n / 16 < 16

read_as : (s : Step) (k r n rows : ℕ) → n ≡ 16 * k + r → noted_step k ≡ s → k < 16 → length (table_of s) ≡ rows → rows ≤ 16 → r < length (table_of s) → Read (deed_by s r) n
read_as s k r n rows e q h l m b =
    let f : n / 16 ≡ k = omega (arith, e, l, m, b) in
    record { step = ap noted_step f ∙ q; row = omega (arith, e, l, m, b); small = omega (arith, f, h) }

pub read : (s : Step) (r n : ℕ) → noted_by s r n → r < length (table_of s) → Read (deed_by s r) n
unfolding noted_step table_of suffix prefix A_4 A_5 A_6 A_7 A_8 A_9 A_11 A_12 A_13 A_14 A_15 A_16 A_17 A_18 A_19 A_20
read floating_mark r n e h = absurd e
read normalize_pre r n e h = absurd e
read (ending verb_step1) r n e h = read_as (ending verb_step1) 0 r n 12 e refl (omega arith) refl (omega arith) h
read (ending verb_step2a) r n e h = read_as (ending verb_step2a) 1 r n 11 e refl (omega arith) refl (omega arith) h
read (ending verb_step2b) r n e h = read_as (ending verb_step2b) 2 r n 2 e refl (omega arith) refl (omega arith) h
read (ending verb_step2c) r n e h = read_as (ending verb_step2c) 3 r n 2 e refl (omega arith) refl (omega arith) h
read (ending noun_step1b) r n e h = read_as (ending noun_step1b) 4 r n 1 e refl (omega arith) refl (omega arith) h
read (ending noun_step2a) r n e h = read_as (ending noun_step2a) 5 r n 3 e refl (omega arith) refl (omega arith) h
read (ending noun_step2b) r n e h = read_as (ending noun_step2b) 6 r n 1 e refl (omega arith) refl (omega arith) h
read (ending noun_step2c1) r n e h = read_as (ending noun_step2c1) 7 r n 1 e refl (omega arith) refl (omega arith) h
read (ending noun_step2c2) r n e h = read_as (ending noun_step2c2) 8 r n 1 e refl (omega arith) refl (omega arith) h
read (ending noun_step3) r n e h = read_as (ending noun_step3) 9 r n 1 e refl (omega arith) refl (omega arith) h
read alef_maqsura r n e h = absurd e
read (front prefix_step1) r n e h = read_as (front prefix_step1) 10 r n 5 e refl (omega arith) refl (omega arith) h
read (front prefix_step2) r n e h = read_as (front prefix_step2) 11 r n 2 e refl (omega arith) refl (omega arith) h
read (front prefix_step3a_noun) r n e h = read_as (front prefix_step3a_noun) 12 r n 4 e refl (omega arith) refl (omega arith) h
read (front prefix_step3b_noun) r n e h = read_as (front prefix_step3b_noun) 13 r n 3 e refl (omega arith) refl (omega arith) h
read (front prefix_step3_verb) r n e h = read_as (front prefix_step3_verb) 14 r n 4 e refl (omega arith) refl (omega arith) h
read (front prefix_step4_verb) r n e h = read_as (front prefix_step4_verb) 15 r n 3 e refl (omega arith) refl (omega arith) h
read normalize_post_last r n e h = absurd e
read normalize_post_other r n e h = absurd e

module _ (d : Deed) (n : ℕ) (noted : NotedAs d n) (h : d.row < length (table_of d.step)) where
  pub deed_read : deed_by (noted_step (n / 16)) (n % 16) ≡ d
  deed_read = let r = read d.step d.row n noted h in λ i. deed_by (r.step i) (r.row i)

  pub in_step : InStep (n / 16) (n % 16)
  in_step = let r = read d.step d.row n noted h in (r.small, subst (λ (e : Deed). e.row < length (table_of e.step)) (sym deed_read) h)

  pub deed_is : (bytes letters : List ℕ) (row count : ℕ) → row ≡ n % 16 → bytes ≡ name (noted_step (n / 16)) → Encodes letters (row_of (deed_by (noted_step (n / 16)) row)) → count ≡ length (put (deed_by (noted_step (n / 16)) row))
      → IsDeed d bytes letters count
  deed_is bytes letters row count e b l p =
      let q : deed_by (noted_step (n / 16)) row ≡ d = ap (deed_by (noted_step (n / 16))) e ∙ deed_read in
      record { named = b ∙ ap (λ (x : Deed). name x.step) q; row = subst (λ (x : Deed). Encodes letters (row_of x)) q l; puts = p ∙ ap (λ (x : Deed). length (put x)) q }

-- ---- the loop over changes, which writes a line for each
pub record Inv (ds : List Deed) (changes : List ℕ) (old : Page) (i : ℕ) (page : Page) : Type 0 where
  pub so_far : List Deed
  pub rest : List Deed
  pub split : ds ≡ so_far ++ rest
  pub noted : AllNoted rest (drop i changes)
  pub tells : Tells old so_far page

-- the next deed, noted as n, with those behind it
record Next (rest : List Deed) (n : ℕ) (ns : List ℕ) : Type 0 where
  d : Deed
  ds : List Deed
  is : rest ≡ d ∷ ds
  noted : NotedAs d n
  behind : AllNoted ds ns

next_of : (rest : List Deed) (n : ℕ) (ns : List ℕ) → AllNoted rest (n ∷ ns) → Next rest n ns
next_of [] n ns k = absurd k
next_of (d ∷ ds) n ns k = record { d = d; ds = ds; is = refl; noted = k.0; behind = k.1 }

none_of : (rest : List Deed) → AllNoted rest [] → rest ≡ []
none_of [] k = refl
none_of (d ∷ ds) k = absurd k

module _ {ds : List Deed} {changes : List ℕ} {old : Page} (f : Fits old ds) where
  pub start : AllNoted ds changes → Inv ds changes old 0 old
  start k = record { so_far = []; rest = ds; split = refl; noted = k; tells = tells_none old }

  module _ {i : ℕ} {page : Page} (v : Inv ds changes old i page) where
    module _ (h : i < length changes) where
      next : Next v.rest (get_or changes i 0) (drop (suc i) changes)
      next = next_of v.rest (get_or changes i 0) (drop (suc i) changes) (subst (AllNoted v.rest) (drop-cons changes i 0 h) v.noted)

      all : ds ≡ v.so_far ++ (next.d ∷ next.ds)
      all = v.split ∙ ap (λ (x : List Deed). v.so_far ++ x) next.is

      pub told_next : (d : Deed) × (NotedAs d (get_or changes i 0) × Fits page (d ∷ []))
      told_next = (next.d, (next.noted, fits_first (next.d ∷ []) next.ds page (fits_second v.so_far (next.d ∷ next.ds) old (subst (Fits old) all f) page v.tells)))

      pub turn : (q : Page) → Tells page (told_next.0 ∷ []) q → Inv ds changes old (i + 1) q
      unfolding told_next
      turn q t = record {
        so_far = v.so_far ++ (next.d ∷ []);
        rest = next.ds;
        split = all ∙ sym (append_assoc v.so_far (next.d ∷ []) next.ds);
        noted = let z : suc i ≡ i + 1 = omega arith in subst (λ (k : ℕ). AllNoted next.ds (drop k changes)) z next.behind;
        tells = tells_both v.so_far (next.d ∷ []) v.tells t;
      }

    pub done : length changes ≤ i → Tells old ds page
    done h =
        let e : v.rest ≡ [] = none_of v.rest (subst (AllNoted v.rest) (drop_of_length-le changes h) v.noted) in
        subst (λ (x : List Deed). Tells old x page) (sym (v.split ∙ ap (λ (x : List Deed). v.so_far ++ x) e ∙ append-nil v.so_far)) v.tells
