-- The places that items 3 to 5 leave are those of the head letter and the run. Assumes nothing.
use mathlib.Core.Path.{◌≡◌, sym, ap, ◌∙◌}
use mathlib.Core.List.{List, ◌++◌}
use Prim.Native.Nat.{ℕ, ◌+◌, ◌-◌}
use native.Mathlib.Omega.{arith}
use lib.ListN.{length, take, drop, length-append}
use lib.Seq.{take-take}
use Rattle.std.proofs.lemmas.List.{drop-take}
use Rattle.definition.specs.Words.{Word}
use Rattle.definition.specs.Kind.{kind}
use Rattle.definition.specs.Normal.{normalise}
use Rattle.definition.specs.Endings.{endings, endings_leave, joined}
use Rattle.definition.specs.Stem.{cutting, cuts, front, head_letter, run, back}
use Rattle.definition.proofs.Main.{main_demand3}
use Rattle.definition.proofs.Lengths.{maqsura_if_length}
use Rattle.definition.proofs.Leave.{endings_leave_lem}
use Rattle.definition.proofs.Whole.{kept}
use Rattle.places.specs.Places.{head_from, kept_places}
use Rattle.places.proofs.Heads.{Headed, unheaded, headed, from_least, head_of}
use Rattle.arabic.specs.Texts.{places_by}

module _ (w : Word) (ps : List ℕ) where
  abbrev left : ℕ
  left = length (endings_leave (kind w) (normalise w))

  left_length : left ≡ length (front w) + length (run w)
  unfolding back cuts
  left_length =
      let k = kept (kind w) (normalise w) in
      let d = main_demand3 w in
      omega (
        arith,
        ap length (endings_leave_lem (kind w) (normalise w)) ∙ maqsura_if_length (endings (kind w) (normalise w)) (cutting (kind w) (normalise w)).text,
        ap length k.whole ∙ length-append (cutting (kind w) (normalise w)).text (joined (cutting (kind w) (normalise w)).cuts),
        ap length d.parts ∙ length-append (front w) (run w ++ back w),
        length-append (run w) (back w),
      )

  first_part : Headed (front w) (head_letter w) → take (length (head_letter w)) (drop (head_from (front w)) (take left ps)) ≡ take (length (head_letter w)) (drop (head_from (front w)) ps)
  first_part (unheaded e) = (λ i. take (length (e i)) (drop (head_from (front w)) (take left ps))) ∙ (λ i. take (length (sym e i)) (drop (head_from (front w)) ps))
  first_part (headed c d rest e q) =
      let i : ℕ = head_from (front w) in
      let l = from_least (front w) in
      let m : i + (left - i) ≡ left = omega (arith, ap length e, left_length) in
      ap (λ (n : ℕ). take (length (head_letter w)) (drop i (take n ps))) (sym m)
      ∙ ap (take (length (head_letter w))) (drop-take i (left - i) ps)
      ∙ take-take (length (head_letter w)) (left - i) (drop i ps) (omega (arith, ap length e, ap length q, left_length))

  second_part : drop (length (front w)) (take left ps) ≡ take (length (run w)) (drop (length (front w)) ps)
  second_part = ap (λ (n : ℕ). drop (length (front w)) (take n ps)) left_length ∙ drop-take (length (front w)) (length (run w)) ps

  pub kept_is : places_by (kind w) (normalise w) ps ≡ kept_places w ps
  unfolding kept_places front head_letter
  kept_is = λ i. first_part (head_of w) i ++ second_part i
