-- Each row of the front steps, by computed tests. Assumes nothing.
use mathlib.Core.Path.{◌≡◌, refl}
use mathlib.Core.Bool.{Bool, true}
use mathlib.Core.Logic.{◌⊎◌, inl, inr}
use mathlib.Core.List.{[], ◌∷◌}
use Prim.Native.Nat.{ℕ, ◌+◌, ◌-◌, ◌≤◌, ◌<◌}
use native.Mathlib.Omega.{arith}
use lib.Dec.{leb, eqb}
use lib.ListN.{length, drop, get_or}
use borrow.Author.Tests.{leb-true, eqb-true}
use Rattle.definition.specs.Letters.{alef, teh, noon, yeh}
use Rattle.definition.specs.Words.{Word, both, every, same}
use Rattle.definition.specs.Tables.{Row, A_4, A_5, A_6, A_7, A_8, A_9}
use Rattle.definition.specs.Search.{row_at, least_letters}
use Rattle.definition.specs.Fronts.{PrefixStep, prefix_step1, prefix_step2, prefix_step3a_noun, prefix_step3b_noun, prefix_step3_verb, prefix_step4_verb, prefix, replacements, at, front_row, replacement}
use Rattle.definition.proofs.Match.{both_0, both_1, either, by, same_eq}
use Rattle.definition.proofs.Found.{all_at}

-- ---- a test of a step's rows: the replacement is the row's end, at most so many letters go, and three letters stay
abbrev pub replaced_by : PrefixStep → Row → Word
replaced_by s k = get_or (replacements s) (k.class - 1) []

abbrev pass_fits : ℕ → PrefixStep → Row → Bool
pass_fits most s k =
    both (same (drop (length k.letters - length (replaced_by s k)) k.letters) (replaced_by s k))
    (both (leb (length (replaced_by s k)) (length k.letters))
    (both (leb (length k.letters) (length (replaced_by s k) + most))
    (leb (length k.letters + 3) (least_letters (prefix s).guards k.class + length (replaced_by s k)))))

abbrev pub PassRows : ℕ → PrefixStep → Type 0
PassRows most s = every (pass_fits most s) (prefix s).table ≡ true

pub pass_2 : PassRows 1 prefix_step2
unfolding prefix replacements A_5 same
pass_2 = refl

pub pass_3a : PassRows 3 prefix_step3a_noun
unfolding prefix replacements A_6 same
pass_3a = refl

pub pass_3b : PassRows 1 prefix_step3b_noun
unfolding prefix replacements A_7 same
pass_3b = refl

pub pass_3v : PassRows 1 prefix_step3_verb
unfolding prefix replacements A_8 same
pass_3v = refl

pub record Passes (most g : ℕ) (key new : Word) : Type 0 where
  pub tail : drop (length key - length new) key ≡ new
  pub shorter : length new ≤ length key
  pub few : length key ≤ length new + most
  pub stay : length key + 3 ≤ g + length new

pub passes : (most : ℕ) (s : PrefixStep) → PassRows most s → (r : ℕ) → r < length (prefix s).table
    → Passes most (least_letters (prefix s).guards (row_at (prefix s).table r).class) (front_row (at s r)) (replacement (at s r))
unfolding front_row replacement
passes most s p r h =
    let k : Row = row_at (prefix s).table r in
    let new : Word = replaced_by s k in
    let e : pass_fits most s k ≡ true = all_at (pass_fits most s) (prefix s).table p r h in
    let e1 = both_1 (same (drop (length k.letters - length new) k.letters) new) _ e in
    let e2 = both_1 (leb (length new) (length k.letters)) _ e1 in
    record {
      tail = same_eq (drop (length k.letters - length new) k.letters) new (both_0 _ _ e);
      shorter = leb-true (length new) (length k.letters) (both_0 _ _ e1);
      few = leb-true (length k.letters) (length new + most) (both_0 _ _ e2);
      stay = leb-true (length k.letters + 3) (least_letters (prefix s).guards k.class + length new) (both_1 (leb (length k.letters) (length new + most)) _ e2);
    }

-- ---- a test of a step's rows: how many letters a replacement has
abbrev NewRows : ℕ → PrefixStep → Type 0
NewRows n s = every (λ (k : Row). eqb (length (replaced_by s k)) n) (prefix s).table ≡ true

pub new_2 : NewRows 0 prefix_step2
unfolding prefix replacements A_5
new_2 = refl

pub new_3v : NewRows 1 prefix_step3_verb
unfolding prefix replacements A_8
new_3v = refl

pub new_length : (n : ℕ) (s : PrefixStep) → NewRows n s → (r : ℕ) → r < length (prefix s).table → length (replacement (at s r)) ≡ n
unfolding replacement
new_length n s p r h =
    eqb-true (length (replaced_by s (row_at (prefix s).table r))) n (all_at (λ (k : Row). eqb (length (replaced_by s k)) n) (prefix s).table p r h)

-- ---- the rows of Step1: two letters, guard 4, and the replacement is one of the two
abbrev head_fits : Row → Bool
head_fits k =
    both (eqb (length k.letters) 2)
    (both (eqb (least_letters (prefix prefix_step1).guards k.class) 4)
    (either (same (replaced_by prefix_step1 k) (get_or k.letters 0 0 ∷ [])) (same (replaced_by prefix_step1 k) (get_or k.letters 1 0 ∷ []))))

head_rows : every head_fits (prefix prefix_step1).table ≡ true
unfolding prefix replacements A_4 same
head_rows = refl

pub record Heads (r : ℕ) (key new : Word) : Type 0 where
  pub two : length key ≡ 2
  pub four : least_letters (prefix prefix_step1).guards (row_at (prefix prefix_step1).table r).class ≡ 4
  pub kept : (i : ℕ) × (i < 2) × (new ≡ get_or key i 0 ∷ [])

pub heads : (r : ℕ) → r < length (prefix prefix_step1).table → Heads r (front_row (at prefix_step1 r)) (replacement (at prefix_step1 r))
unfolding front_row replacement
heads r h =
    let k : Row = row_at (prefix prefix_step1).table r in
    let new : Word = replaced_by prefix_step1 k in
    let e : head_fits k ≡ true = all_at head_fits (prefix prefix_step1).table head_rows r h in
    let e1 = both_1 (eqb (length k.letters) 2) _ e in
    let e2 = both_1 (eqb (least_letters (prefix prefix_step1).guards k.class) 4) _ e1 in
    record {
      two = eqb-true (length k.letters) 2 (both_0 _ _ e);
      four = eqb-true (least_letters (prefix prefix_step1).guards k.class) 4 (both_0 _ _ e1);
      kept = by (same new (get_or k.letters 0 0 ∷ []))
          (λ t. (0, omega arith, same_eq new (get_or k.letters 0 0 ∷ []) t))
          (λ t. (1, omega arith, same_eq new (get_or k.letters 1 0 ∷ []) (rw t at e2)));
    }

-- ---- the row of Step4_Verb: three letters, of which the first becomes 0627
abbrev one_of : ℕ → Bool
one_of c = either (eqb c teh) (either (eqb c noon) (eqb c yeh))

abbrev four_fits : Row → Bool
four_fits k =
    both (same k.letters (get_or k.letters 0 0 ∷ drop 1 k.letters))
    (both (same (replaced_by prefix_step4_verb k) (alef ∷ drop 1 k.letters))
    (both (eqb (length (drop 1 k.letters)) 2) (one_of (get_or k.letters 0 0))))

four_rows : every four_fits (prefix prefix_step4_verb).table ≡ true
unfolding prefix replacements A_9 same
four_rows = refl

abbrev pub Verbal : ℕ → Type 0
Verbal c = (c ≡ teh) ⊎ ((c ≡ noon) ⊎ (c ≡ yeh))

one_of_lem : (c : ℕ) → one_of c ≡ true → Verbal c
one_of_lem c e =
    by (eqb c teh) (λ t. inl (eqb-true c teh t))
    (λ t. by (eqb c noon) (λ u. inr (inl (eqb-true c noon u))) (λ u. inr (inr (eqb-true c yeh (rw u at (rw t at e))))))

pub record Fours (key new : Word) : Type 0 where
  pub first : ℕ
  pub others : Word
  pub key_is : key ≡ first ∷ others
  pub new_is : new ≡ alef ∷ others
  pub two : length others ≡ 2
  pub letter : Verbal first

pub fours : (r : ℕ) → r < length (prefix prefix_step4_verb).table → Fours (front_row (at prefix_step4_verb r)) (replacement (at prefix_step4_verb r))
unfolding front_row replacement
fours r h =
    let k : Row = row_at (prefix prefix_step4_verb).table r in
    let new : Word = replaced_by prefix_step4_verb k in
    let c : ℕ = get_or k.letters 0 0 in
    let e : four_fits k ≡ true = all_at four_fits (prefix prefix_step4_verb).table four_rows r h in
    let e1 = both_1 (same k.letters (c ∷ drop 1 k.letters)) _ e in
    let e2 = both_1 (same new (alef ∷ drop 1 k.letters)) _ e1 in
    record {
      first = c;
      others = drop 1 k.letters;
      key_is = same_eq k.letters (c ∷ drop 1 k.letters) (both_0 _ _ e);
      new_is = same_eq new (alef ∷ drop 1 k.letters) (both_0 _ _ e1);
      two = eqb-true (length (drop 1 k.letters)) 2 (both_0 _ _ e2);
      letter = one_of_lem c (both_1 (eqb (length (drop 1 k.letters)) 2) _ e2);
    }
