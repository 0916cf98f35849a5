-- Endings and fronts together, for a normalised word n of kind k. Assumes nothing.
use mathlib.Core.Path.{◌≡◌, sym, ap, ◌∙◌, subst}
use mathlib.Core.List.{◌++◌, append_assoc}
use Prim.Native.Nat.{ℕ, ◌+◌, ◌≤◌, min}
use native.Mathlib.Omega.{arith}
use lib.ListN.{length, drop, length-append}
use Rattle.definition.specs.Words.{Word}
use Rattle.definition.specs.Kind.{Kind}
use Rattle.definition.specs.Endings.{joined, endings, endings_leave, maqsura_if_failed}
use Rattle.definition.specs.Fronts.{Fronting, fronts}
use Rattle.definition.specs.Finish.{finish}
use Rattle.definition.specs.Stem.{cutting, fronting, stem_of, without}
use Rattle.definition.proofs.Cutting.{Kept, endings-kept, without_is}
use Rattle.definition.proofs.Fronting.{Fronted, fronts-done, fourth}
use Rattle.definition.proofs.Leave.{endings_leave_lem}
use Rattle.definition.proofs.Lengths.{maqsura_if_length, finish-length, fourth_length, head_short, maqsura_if_split}

module _ (k : Kind) (n : Word) where
  pub kept : Kept n (cutting k n)
  unfolding cutting
  kept = endings-kept n k

  abbrev left : Word
  left = (cutting k n).text

  abbrev f : Fronting
  f = fronting k n

  pub fronted : Fronted (maqsura_if_failed (endings k n) (cutting k n).text) (fronting k n)
  unfolding fronting
  fronted = subst (λ (x : Word). Fronted x (fronts k (endings_leave k n))) (endings_leave_lem k n) (fronts-done (endings_leave k n) k)

  -- the run of the normalised word
  abbrev pub run_of : Word
  run_of = drop (length (fronting k n).front) (without n (cutting k n).cuts)

  run-left : run_of ≡ drop (length f.front) left
  run-left = ap (drop (length f.front)) (without_is n left (cutting k n).cuts kept.whole)

  lengths : (length left ≡ length f.front + length fronted.run) × (length f.head_letter ≤ 1) × (length f.head_letter ≤ length f.front)
  lengths =
      let hs = head_short f.front f.front f.head_letter fronted.order.step1 in
      (sym (maqsura_if_length (endings k n) left) ∙ ap length fronted.whole ∙ length-append f.front fronted.run, hs.0, hs.1)

  both-parts : (left ≡ f.front ++ drop (length f.front) left) × (fronted.run ≡ maqsura_if_failed (endings k n) (drop (length f.front) left))
  both-parts =
      let l1 = lengths.1 in let en = fronted.enough in
      maqsura_if_split (endings k n) left f.front fronted.run fronted.whole (omega arith)

  pub run_is : fronted.run ≡ maqsura_if_failed (endings k n) run_of
  run_is = both-parts.1 ∙ ap (maqsura_if_failed (endings k n)) (sym run-left)

  pub parts_of : n ≡ (fronting k n).front ++ (run_of ++ joined (cutting k n).cuts)
  parts_of =
      kept.whole
      ∙ ap (λ (x : Word). x ++ joined (cutting k n).cuts) (both-parts.0 ∙ ap (λ (x : Word). f.front ++ x) (sym run-left))
      ∙ append_assoc f.front run_of (joined (cutting k n).cuts)

  pub letters_of : stem_of k n ≡ finish ((fronting k n).head_letter ++ fourth (fronting k n).applied (maqsura_if_failed (endings k n) run_of))
  unfolding stem_of
  letters_of = ap finish (fronted.stays ∙ ap (λ (x : Word). f.head_letter ++ fourth f.applied x) run_is)

  pub size_of : length (stem_of k n) ≡ length ((fronting k n).head_letter ++ run_of)
  size_of =
      ap length letters_of ∙ finish-length (f.head_letter ++ fourth f.applied (maqsura_if_failed (endings k n) run_of))
      ∙ length-append f.head_letter (fourth f.applied (maqsura_if_failed (endings k n) run_of))
      ∙ ap (λ (m : ℕ). length f.head_letter + m) (fourth_length f.applied (maqsura_if_failed (endings k n) run_of) ∙ maqsura_if_length (endings k n) run_of)
      ∙ sym (length-append f.head_letter run_of)

  sizes : (length (stem_of k n) ≡ length f.head_letter + length fronted.run) × (length n ≡ length left + length (joined (cutting k n).cuts))
  sizes =
      let a = size_of in
      let b : length (f.head_letter ++ run_of) ≡ length f.head_letter + length run_of = length-append f.head_letter run_of in
      let c : length fronted.run ≡ length run_of = ap length run_is ∙ maqsura_if_length (endings k n) run_of in
      (omega arith, ap length kept.whole ∙ length-append left (joined (cutting k n).cuts))

  pub least_of : min (length n) 2 ≤ length (stem_of k n)
  least_of = let a = sizes in let l = lengths in let e = fronted.enough in let m = kept.least in omega arith

  pub most_of : length (stem_of k n) ≤ length n
  most_of = let a = sizes in let l = lengths in omega arith
