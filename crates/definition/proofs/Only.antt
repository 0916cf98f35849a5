-- The stem is the only word that meets demand 3. Assumes nothing.
use mathlib.Core.Path.{◌≡◌, sym, ap, ◌∙◌, subst}
use mathlib.Core.Bool.{true, Bool-discrete}
use mathlib.Core.Logic.Dec
use mathlib.Core.List.{List, [], ◌∷◌, ◌++◌}
use Prim.Native.Nat.{ℕ, suc, ◌+◌}
use native.Mathlib.Omega.{arith}
use native.Mathlib.Decide.{ℕ_discrete}
use lib.ListN.{length, get_or}
use lib.Seq.{ext_get_or}
use Rattle.definition.specs.Letters.{beh, teh, kaf}
use Rattle.definition.specs.Words.{Word, same, begins_with}
use Rattle.definition.specs.Tables.{A_0}
use Rattle.definition.specs.Search.{longer, longest}
use Rattle.definition.specs.Tries.{Try, done, failed, Failed}
use Rattle.definition.specs.Kind.{kind}
use Rattle.definition.specs.Normal.{gives, listed_for, given, normal, normalise}
use Rattle.definition.specs.Endings.{Cutting, endings}
use Rattle.definition.specs.Fronts.{prefix_step4_verb}
use Rattle.definition.specs.Finish.{last, other, finish}
use Rattle.definition.specs.Stem.{stem, applied, head_letter, run}
use Rattle.definition.specs.Demand3.{Change, is_applied, place, Demand3}
use Rattle.definition.specs.Facts.{cut_word}
use Rattle.definition.specs.Examples.{Worked, work, examples}
use Rattle.definition.proofs.Examples.{examples_right}
use Rattle.definition.proofs.OneChange.{change-one}
use Rattle.definition.proofs.Demand3.{demand3}

failed_or_not : (t : Try Cutting) → Dec (Failed t)
failed_or_not (done v) = no (λ z. z)
failed_or_not (failed v) = yes tt

pub demand3_only : (w s : Word) → Demand3 w s → s ≡ stem w
demand3_only w s d =
    let one = demand3 w in
    let long : length s ≡ length (stem w) = d.size ∙ sym one.size in
    let c : ℕ → ℕ = λ i. get_or (head_letter w ++ run w) i 0 in
    let T : Type 0 = Failed (endings (kind w) (normalise w)) in
    let F : ℕ → Type 0 = λ i. (is_applied prefix_step4_verb (applied w) ≡ true) × (i ≡ length (head_letter w) + place (applied w)) in
    ext_get_or 0 s (stem w) long (λ i h.
    change-one (suc i ≡ length s) T (F i)
    (ℕ_discrete (suc i) (length s)) (failed_or_not (endings (kind w) (normalise w)))
    (Dec.and (Bool-discrete (is_applied prefix_step4_verb (applied w)) true) (ℕ_discrete i (length (head_letter w) + place (applied w))))
    (c i) (get_or s i 0) (get_or (stem w) i 0) (d.changes i h)
    (subst (λ (m : ℕ). Change (suc i ≡ m) T (F i) (c i) (get_or (stem w) i 0)) (sym long) (one.changes i (omega arith))))

-- ---- the first worked example, of which two endings are cut
abbrev first_stem : List Worked → Word
first_stem [] = []
first_stem (e ∷ es) = e.stem

cut-stem : stem cut_word ≡ kaf ∷ teh ∷ beh ∷ []
unfolding work examples
cut-stem = ap first_stem examples_right.1

pub no_cuts : Demand3 cut_word (finish (normalise cut_word)) → ⊥
unfolding same begins_with longer longest A_0 gives listed_for given normal normalise last other finish
no_cuts d =
    let e : 6 ≡ length (kaf ∷ teh ∷ beh ∷ []) = ap length (demand3_only cut_word (finish (normalise cut_word)) d ∙ cut-stem) in
    omega arith
