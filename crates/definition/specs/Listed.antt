-- Every class of every table has its guard and its replacement, so that no list is asked for a class that it lacks.
-- A_1, A_2 and A_21 have no such list: main_last, main_other and main_maqsura name what is put for each class, and are false of a class with nothing named.
use Rattle.std.specs.Prelude.{ℕ, ◌≡◌, Bool, true, false, List, [], ◌∷◌, eqb, leb, length}
use Rattle.definition.specs.Words.{Word, pick, both, every, begins_with}
use Rattle.definition.specs.Tables.{Row, Table, A_0, A_3}
use Rattle.definition.specs.Search.{Rule, rule, taken}
use Rattle.definition.specs.Kind.{kind_by, kind}
use Rattle.definition.specs.Normal.{gives}
use Rattle.definition.specs.Endings.{SuffixStep, suffix}
use Rattle.definition.specs.Fronts.{PrefixStep, prefix, replacements}

-- the classes of all rows are among the first n, from class 1 on
abbrev pub classes_up_to : ℕ → Table → Bool
classes_up_to n t = every (λ (r : Row). both (leb 1 r.class) (leb r.class n)) t

-- every class has its guard
abbrev pub has_guards : Rule → Bool
has_guards s = classes_up_to (length s.guards) s.table

-- every class of a front step has its replacement
abbrev pub has_replacements : PrefixStep → Bool
has_replacements s = classes_up_to (length (replacements s)) (prefix s).table

abbrev pub has_class : Table → ℕ → Bool
has_class [] k = false
has_class (g ∷ gs) k = pick (eqb g.class k) true (has_class gs k)

-- the classes of A_0 whose rows are deleted
abbrev pub deletes : List ℕ
deletes = 1 ∷ 2 ∷ 3 ∷ 4 ∷ 15 ∷ []

abbrev pub is_one_of : List ℕ → ℕ → Bool
is_one_of [] k = false
is_one_of (j ∷ js) k = pick (eqb j k) true (is_one_of js k)

-- the rule of the kind check
abbrev pub checks1 : Rule
checks1 = rule A_3 (5 ∷ 4 ∷ [])

pub record EveryClassListed : Type 0 where
  pub kind_by_classes : (w : Word) → kind w ≡ kind_by (taken (begins_with w) checks1 (length w))
  pub kind_guards : has_guards checks1 ≡ true
  -- a class of A_0 is one of the deleted, or what it gives is listed
  pub normal_gives : every (λ (r : Row). pick (is_one_of deletes r.class) true (has_class gives r.class)) A_0 ≡ true
  -- and a deleted one is not listed
  pub normal_deletes : every (λ (g : Row). pick (is_one_of deletes g.class) false true) gives ≡ true
  pub suffix_guards : (s : SuffixStep) → has_guards (suffix s) ≡ true
  pub prefix_guards : (s : PrefixStep) → has_guards (prefix s) ≡ true
  pub prefix_replacements : (s : PrefixStep) → has_replacements s ≡ true
