-- A change noted behind others, and what of a step's table lets its changes be noted. Assumes nothing.
use mathlib.Core.Path.{◌≡◌, refl, ap, ◌∙◌}
use mathlib.Core.Bool.{Bool, true}
use mathlib.Core.List.{List, [], ◌∷◌, ◌++◌}
use Prim.Native.Nat.{ℕ, ◌+◌, ◌*◌, ◌≤◌, ◌<◌}
use native.Mathlib.Omega.{arith}
use lib.Dec.{leb}
use lib.ListN.{length, take, set, length-append}
use borrow.Author.Tests.{leb-true}
use Rattle.std.proofs.lemmas.List.{take_more_set}
use Rattle.definition.specs.Words.{both, every}
use Rattle.definition.specs.Tables.{Row, Table, A_4, A_5, A_6, A_7, A_8, A_9, A_11, A_12, A_13, A_14, A_15, A_16, A_17, A_18, A_19, A_20}
use Rattle.definition.specs.Search.{row_at}
use Rattle.definition.specs.Endings.{SuffixStep, verb_step1, verb_step2a, verb_step2b, verb_step2c, noun_step1b, noun_step2a, noun_step2b, noun_step2c1, noun_step2c2, noun_step3, suffix}
use Rattle.definition.specs.Fronts.{PrefixStep, prefix_step1, prefix_step2, prefix_step3a_noun, prefix_step3b_noun, prefix_step3_verb, prefix_step4_verb, prefix}
use Rattle.definition.proofs.Match.{both_0, both_1}
use Rattle.definition.proofs.Found.{all_at}
use Rattle.utf8.specs.Utf8.{encode1, encode}
use Rattle.utf8.specs.Places.{size}
use Rattle.snowball.specs.declared.env.Env.{Env}
use Rattle.arabic.specs.Changes.{suffix_number, prefix_number, in_order, Noted, with_change}

-- ---- the changes that are noted
pub in_order-length : {A : Type 0} (number : A → ℕ) (xs : List A) → length (in_order number xs) ≡ length xs
in_order-length number [] = refl
in_order-length number (x ∷ xs) = omega (arith, length-append (in_order number xs) (number x ∷ []), in_order-length number xs)

pub none_noted : (e : Env) → e.made ≡ 0 → Noted e []
none_noted e z = record { made = z; changes = refl }

pub noted_more : (e : Env) (ns : List ℕ) (n : ℕ) → e.made < length e.changes → Noted e ns → Noted (with_change e n) (ns ++ (n ∷ []))
noted_more e ns n h k =
    let l : length (ns ++ (n ∷ [])) ≡ e.made + 1 = omega (arith, length-append ns (n ∷ []), k.made) in
    record {
      made = omega (arith, l);
      changes =
          ap (λ (m : ℕ). take m (set e.changes e.made n)) l
          ∙ take_more_set e.changes e.made n h
          ∙ ap (λ (xs : List ℕ). xs ++ (n ∷ [])) (ap (λ (m : ℕ). take m e.changes) k.made ∙ k.changes);
    }

-- they stay where made and changes do
pub noted_same : (e r : Env) (ns : List ℕ) → r.made ≡ e.made → r.changes ≡ e.changes → Noted e ns → Noted r ns
noted_same e r ns m c k = record { made = m ∙ k.made; changes = ap (take (length ns)) c ∙ k.changes }

-- ---- a test of every step's table: the numbers of its changes are bytes, and each row has two bytes at least
abbrev are_noted : ℕ → Table → Bool
are_noted n t = both (leb (16 * n + length t) 256) (every (λ (k : Row). leb 2 (size k.letters)) t)

pub suffix_noted : (s : SuffixStep) → are_noted (suffix_number s) (suffix s).table ≡ true
unfolding suffix A_11 A_12 A_13 A_14 A_15 A_16 A_17 A_18 A_19 A_20 encode encode1
suffix_noted verb_step1 = refl
suffix_noted verb_step2a = refl
suffix_noted verb_step2b = refl
suffix_noted verb_step2c = refl
suffix_noted noun_step1b = refl
suffix_noted noun_step2a = refl
suffix_noted noun_step2b = refl
suffix_noted noun_step2c1 = refl
suffix_noted noun_step2c2 = refl
suffix_noted noun_step3 = refl

pub prefix_noted : (s : PrefixStep) → are_noted (prefix_number s) (prefix s).table ≡ true
unfolding prefix A_4 A_5 A_6 A_7 A_8 A_9 encode encode1
prefix_noted prefix_step1 = refl
prefix_noted prefix_step2 = refl
prefix_noted prefix_step3a_noun = refl
prefix_noted prefix_step3b_noun = refl
prefix_noted prefix_step3_verb = refl
prefix_noted prefix_step4_verb = refl

-- of the row r of the step with the number n
pub record IsNoted (n : ℕ) (t : Table) (r : ℕ) : Type 0 where
  pub byte : 16 * n + r < 256
  pub two_bytes : 2 ≤ size (row_at t r).letters

pub is_noted : (n : ℕ) (t : Table) → are_noted n t ≡ true → (r : ℕ) → r < length t → IsNoted n t r
is_noted n t e r h =
    let m = leb-true (16 * n + length t) 256 (both_0 _ _ e) in
    record {
      byte = omega arith;
      two_bytes = leb-true 2 (size (row_at t r).letters) (all_at (λ (k : Row). leb 2 (size k.letters)) t (both_1 (leb (16 * n + length t) 256) _ e) r h);
    }
