-- Demand 3, of every word. Assumes nothing.
use mathlib.Core.Path.{◌≡◌, sym, ap, ◌∙◌, subst}
use mathlib.Core.Bool.{true}
use mathlib.Core.List.{◌++◌, reverse, reverse-reverse}
use Prim.Native.Nat.{ℕ, suc, ◌+◌, ◌≤◌, ◌<◌}
use native.Mathlib.Omega.{arith}
use lib.ListN.{length, get_or}
use Rattle.definition.specs.Words.{Word}
use Rattle.definition.specs.Tries.{Failed}
use Rattle.definition.specs.Kind.{Kind, kind}
use Rattle.definition.specs.Normal.{normalise}
use Rattle.definition.specs.Endings.{joined, endings, maqsura_if_failed}
use Rattle.definition.specs.Fronts.{Fronting, prefix_step4_verb}
use Rattle.definition.specs.Finish.{finish}
use Rattle.definition.specs.Stem.{cutting, fronting, stem_of, stem, cuts, chain, back, applied, front, head_letter, run}
use Rattle.definition.specs.Demand3.{InOrder, Change, NoKey, Plain, AllOf, is_applied, place, Demand3}
use Rattle.definition.proofs.Cutting.{in_turn_lem}
use Rattle.definition.proofs.Fronting.{Fourth, fourth, head_in}
use Rattle.definition.proofs.Lengths.{head_short, maqsura_if_length}
use Rattle.definition.proofs.Whole.{kept, fronted, run_of, run_is, parts_of, letters_of, size_of, least_of, most_of}
use Rattle.definition.proofs.Changed.{changed}
use Rattle.definition.proofs.Depends.{stem_of_lem}
use Rattle.definition.proofs.Plain.{normalise-plain, all_append, all_left, all_right, all_get_d, all_from, all_head, changed-plain}

-- for a normalised word n of kind k
module _ (k : Kind) (n : Word) where
  abbrev f : Fronting
  f = fronting k n

  abbrev kept-letters : Word
  kept-letters = f.head_letter ++ run_of k n

  order_of : InOrder n (fronting k n).front (fronting k n).head_letter (fronting k n).applied
  order_of =
      let o = (fronted k n).order in
      record {
        first = o.first;
        second = o.second;
        third = o.third;
        step1 = head_in n f.front (run_of k n ++ joined (cutting k n).cuts) f.head_letter (parts_of k n) o.step1;
        step2 = o.step2;
        step3 = o.step3;
        all = o.all;
      }

  -- the head letter has the run's letters behind it
  head_before : length f.head_letter ≤ length (run_of k n)
  head_before =
      let hs = head_short n f.front f.head_letter order_of.step1 in
      let e = (fronted k n).enough in
      let l : length (fronted k n).run ≡ length (run_of k n) = ap length (run_is k n) ∙ maqsura_if_length (endings k n) (run_of k n) in
      omega arith

  abbrev ChangeOf : Word → ℕ → Type 0
  ChangeOf s i =
      Change (suc i ≡ length s) (Failed (endings k n)) ((is_applied prefix_step4_verb f.applied ≡ true) × (i ≡ length f.head_letter + place f.applied))
      (get_or kept-letters i 0) (get_or s i 0)

  changes_of : (i : ℕ) → i < length (stem_of k n) → ChangeOf (stem_of k n) i
  changes_of i h =
      let made : Word = finish (f.head_letter ++ fourth f.applied (maqsura_if_failed (endings k n) (run_of k n))) in
      let four : is_applied prefix_step4_verb f.applied ≡ true → Fourth f.applied (maqsura_if_failed (endings k n) (run_of k n)) =
      λ e. subst (Fourth f.applied) (run_is k n) ((fronted k n).four e) in
      subst (λ (s : Word). ChangeOf s i) (sym (letters_of k n))
      (subst (λ (m : ℕ). Change (suc i ≡ m) (Failed (endings k n)) ((is_applied prefix_step4_verb f.applied ≡ true) × (i ≡ length f.head_letter + place f.applied)) (get_or kept-letters i 0) (get_or made i 0))
      (sym (size_of k n) ∙ ap length (letters_of k n))
      (changed (endings k n) f.applied (run_of k n) f.head_letter four head_before i (omega (arith, size_of k n))))

  plain_of : AllOf NoKey n → AllOf Plain (stem_of k n)
  plain_of h =
      let back : Word = joined (cutting k n).cuts in
      let parts : AllOf NoKey (f.front ++ (run_of k n ++ back)) = subst (AllOf NoKey) (parts_of k n) h in
      let run : AllOf NoKey (run_of k n) = all_left NoKey (run_of k n) back (all_right NoKey f.front (run_of k n ++ back) parts) in
      let letters : AllOf NoKey kept-letters =
      all_append NoKey f.head_letter (run_of k n) (all_head NoKey n f.front (run_of k n ++ back) f.head_letter (parts_of k n) order_of.step1 h) run in
      all_from Plain (stem_of k n) (λ i l. changed-plain _ _ _ _ _ (changes_of i l) (all_get_d NoKey kept-letters i (omega (arith, size_of k n)) letters))

turned : (w : Word) → reverse (chain w) ≡ cuts w
unfolding chain
turned w = reverse-reverse (cuts w)

demand3_of : (w : Word) → Demand3 w (stem_of (kind w) (normalise w))
unfolding chain back cuts applied front head_letter run
demand3_of w =
    let k : Kind = kind w in
    let n : Word = normalise w in
    record {
      parts = parts_of k n;
      fronts = (fronted k n).fronts;
      order = order_of k n;
      gone = omega (arith, (fronted k n).gone);
      joins = ap joined (sym (turned w));
      cut = in_turn_lem n (cutting k n).cuts (kept k n).cut;
      size = size_of k n;
      changes = changes_of k n;
      least = least_of k n;
      most = most_of k n;
      plain = plain_of k n (normalise-plain w);
    }

pub demand3 : (w : Word) → Demand3 w (stem w)
demand3 w = subst (Demand3 w) (sym (stem_of_lem w)) (demand3_of w)
