-- The kind check: the row of A_3 in front, its guard and the letter count decide as the definition does. Assumes nothing.
use mathlib.Core.Path.{◌≡◌, refl, sym, ap, ◌∙◌}
use mathlib.Core.Bool.{Bool, true, false}
use mathlib.Core.List.{[], ◌∷◌}
use mathlib.Core.Option.{Option, none, some}
use Prim.Native.Nat.{ℕ}
use lib.ListN.{length}
use Rattle.definition.specs.Words.{Word, pick, begins_with}
use Rattle.definition.specs.Tables.{A_3}
use Rattle.definition.specs.Search.{Rule, rule, longest, met}
use Rattle.definition.specs.Kind.{Kind, OPEN, DEFINED, kind_by, kind}
use Rattle.definition.specs.StepRow.{kind_check, step_row}
use Rattle.snowball.specs.declared.among.Found.{Found}
use Rattle.snowball.specs.Search.{Ahead}
use Rattle.arabic.specs.Kinds.{flags, kind_of}
use Rattle.arabic.proofs.Guarded.{taken_is}

abbrev check : Rule
check = rule A_3 (5 ∷ 4 ∷ [])

-- the kind where a row's guard is met or not
abbrev kind_if : Bool → Kind
kind_if true = DEFINED
kind_if false = OPEN

-- the kind by whether the row's guard is met, and the row of the search
pub checks : (w : Word) (at : ℕ) (f : Found) → Ahead A_3 w at f → (b : Bool) → b ≡ met (5 ∷ 4 ∷ []) f.class (length w) → (flags (kind_if b) ≡ flags (kind w)) × (f.row ≡ step_row kind_check w)
unfolding kind
checks w at f a b e =
    (by_met b ∙ sym (ap (λ (x : Option ℕ). flags (kind_by x)) (taken_is (begins_with w) check (length w) f.class a.finds.class b e)), a.finds.row)
  where
    by_met : (b : Bool) → flags (kind_if b) ≡ flags (kind_by (pick b (some (longest (begins_with w) A_3)) none))
    by_met true = refl
    by_met false = refl

-- the kind can be read off its flags
pub kind-back : (k : Kind) → kind_of (flags k).defined ≡ k
kind-back OPEN = refl
kind-back DEFINED = refl
