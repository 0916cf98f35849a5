-- Item 1 of document 01: the kind check, on the raw word.
use Rattle.std.specs.Prelude.{ℕ, [], ◌∷◌, length}
use Rattle.std.proofs.Math.Option.{Option, none, some}
use Rattle.definition.specs.Words.{Word, begins_with}
use Rattle.definition.specs.Tables.{A_3}
use Rattle.definition.specs.Search.{rule, taken}
use Rattle.definition.specs.Tries.{Step, failed}

-- OPEN: noun and verb. DEFINED: noun, not verb.
pub data Kind : Type 0 where
  OPEN DEFINED : Kind

abbrev pub kind_by : Option ℕ → Kind
kind_by none = OPEN
kind_by (some r) = DEFINED

-- A_3 in front, class 1 with more than 4 letters or class 2 with more than 3
unfoldable pub kind : Word → Kind
kind w = kind_by (taken (begins_with w) (rule A_3 (5 ∷ 4 ∷ [])) (length w))

module _ {A : Type 0} where
  -- an alternative for open words alone
  abbrev pub if_open : Kind → Step A → Step A
  if_open OPEN f a = f a
  if_open DEFINED f a = failed a
