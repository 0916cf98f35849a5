-- How many letters stand for a letter, by the steps whose rows are single letters. Assumes nothing.
use mathlib.Core.Path.{◌≡◌, refl, sym, ap, ◌∙◌}
use mathlib.Core.Bool.{Bool, true, false}
use Prim.Native.Nat.{ℕ, zero, suc, ◌+◌, ◌≤◌, ◌<◌}
use native.Mathlib.Omega.{arith}
use lib.Dec.{eqb, ltb}
use lib.ListN.{length}
use borrow.Author.Tests.{eqb-true, eq-eqb, ne_eqb, leb-true, ltb-true, ltb-false}
use Rattle.std.specs.Prelude.{Some, None}
use Rattle.std.specs.Bool.{then_some}
use Rattle.std.specs.List.{range_with_len}
use Rattle.definition.specs.Words.{pick, every}
use Rattle.definition.specs.Tables.{Row, A_1, A_2}
use Rattle.definition.specs.Search.{row_at}
use Rattle.definition.specs.Normal.{gives, listed_for}
use Rattle.definition.specs.Floating.{one_of, floating}
use Rattle.definition.proofs.Match.{by}
use Rattle.definition.proofs.Found.{all_at}
use Rattle.arabic.specs.Rows.{row_of, class_of, listed}
use Rattle.arabic.proofs.Table.{class_small}
use Rattle.history.specs.Steps.{Step, floating_mark, normalize_pre, normalize_post_last, normalize_post_other, table_of, put_for, put}
use Rattle.history.specs.History.{row_for, is_key}
use Rattle.history.proofs.Keys.{key_inside}
use Rattle.history.proofs.Letters.{mark_is_key, letter_listed, no_class, classed, pre_classed}
use Rattle.story.specs.Telling.{puts_for}

-- ---- floating marks: nothing is put
pub marks_put : (c : ℕ) (b : Bool) → b ≡ floating c → then_some {T = ℕ} b 0 ≡ puts_for floating_mark c
unfolding puts_for put put_for
marks_put c b e = put_by b ∙ ap (λ (x : Bool). pick x (Some 0) None) (e ∙ sym (mark_is_key c))
  where
    put_by : (b : Bool) → then_some {T = ℕ} b 0 ≡ pick b (Some 0) None
    put_by true = refl
    put_by false = refl

-- ---- item 5: one letter is put for each from 0622 to 0626
in_run : (n a c : ℕ) → a ≤ c → c < a + n → one_of (range_with_len a n) c ≡ true
in_run zero a c h l = absurd (omega arith)
in_run (suc n) a c h l =
    by (ltb a c)
    (λ t. let k = ltb-true a c t in rw (ne_eqb c a (λ e. omega (arith, e, k))) (in_run n (a + 1) c (omega arith) (omega arith)))
    (λ t. let k = ltb-false a c t in rw (eq-eqb c a (omega arith)) refl)

behind_run : (n a c : ℕ) → (a ≤ c → c < a + n → ⊥) → one_of (range_with_len a n) c ≡ false
behind_run zero a c h = refl
behind_run (suc n) a c h = rw (ne_eqb c a (λ e. h (omega (arith, e)) (omega (arith, e)))) (behind_run n (a + 1) c (λ k l. h (omega arith) (omega arith)))

abbrev one_put : Step → Row → Bool
one_put s k = eqb (length (put_for s k.class)) 1

-- a step of item 5
pub record Finishing (s : Step) : Type 0 where
  keys : (c : ℕ) → is_key s c ≡ one_of (range_with_len 0x622 5) c
  puts : every (one_put s) (table_of s) ≡ true

pub last_half : Finishing normalize_post_last
unfolding is_key row_for table_of A_1 put_for
last_half = record { keys = λ c. letter_listed A_1 refl c; puts = refl }

pub other_half : Finishing normalize_post_other
unfolding is_key row_for table_of A_2 put_for
other_half = record { keys = λ c. letter_listed A_2 refl c; puts = refl }

module _ {s : Step} (f : Finishing s) (c : ℕ) where
  pub post_some : 0x622 ≤ c → c ≤ 0x626 → Some 1 ≡ puts_for s c
  unfolding puts_for put
  post_some a b =
      let k : is_key s c ≡ true = f.keys c ∙ in_run 5 0x622 c a (omega arith) in
      let n = eqb-true _ 1 (all_at (one_put s) (table_of s) f.puts (row_for s c) (key_inside s c k)) in
      ap Some (sym n) ∙ ap (λ (b : Bool). pick b (Some (length (put_for s (row_at (table_of s) (row_for s c)).class))) None) (sym k)

  pub post_none : (0x622 ≤ c → c ≤ 0x626 → ⊥) → None ≡ puts_for s c
  unfolding puts_for put
  post_none n = ap (λ (b : Bool). pick b (Some (length (put_for s (row_at (table_of s) (row_for s c)).class))) None) (sym (f.keys c ∙ behind_run 5 0x622 c (λ a b. n a (omega arith))))

-- ---- item 2: as many letters as the class gives
class_same : {k : ℕ} (x : ℕ) → Some k ≡ listed x → k ≡ x
class_same zero e = cc
class_same (suc x) e = cc

class_some : {k : ℕ} (x : ℕ) → Some k ≡ listed x → 1 ≤ x
class_some zero e = absurd (cc)
class_some (suc x) e = omega arith

class_none : (x : ℕ) → None ≡ listed x → x ≡ 0
class_none zero e = refl
class_none (suc x) e = absurd (cc)

pub class_below : (c k : ℕ) → Some k ≡ listed (class_of c) → k < 56
class_below c k e = omega (arith, class_same (class_of c) e, class_small c)

module _ (c : ℕ) where
  abbrev class : ℕ
  class = (row_at (table_of normalize_pre) (row_for normalize_pre c)).class

  class_is : class_of c ≡ (row_at (table_of normalize_pre) (row_for normalize_pre c)).class
  unfolding class_of row_of row_for table_of
  class_is = refl

  pub pre_some : (k : ℕ) → Some k ≡ listed (class_of c) → Some (length (listed_for gives k)) ≡ puts_for normalize_pre c
  unfolding puts_for put put_for
  pre_some k e =
      let key : is_key normalize_pre c ≡ true = by (is_key normalize_pre c) (λ t. t) (λ f. absurd (omega (arith, no_class normalize_pre c f, class_is, class_some (class_of c) e))) in
      ap (λ (x : ℕ). Some (length (listed_for gives x))) (class_same (class_of c) e ∙ class_is) ∙ ap (λ (b : Bool). pick b (Some (length (listed_for gives class))) None) (sym key)

  pub pre_none : None ≡ listed (class_of c) → None ≡ puts_for normalize_pre c
  unfolding puts_for put put_for
  pre_none e =
      let no : is_key normalize_pre c ≡ false =
      by (is_key normalize_pre c)
      (λ t. let l = leb-true 1 class (all_at classed (table_of normalize_pre) pre_classed (row_for normalize_pre c) (key_inside normalize_pre c t)) in absurd (omega (arith, l, class_is, class_none (class_of c) e)))
      (λ f. f) in
      ap (λ (b : Bool). pick b (Some (length (listed_for gives class))) None) (sym no)
