-- What a step answers, against a definition's step, and the tables and guards that it works with.
use Rattle.std.specs.Prelude.{◌≡◌, ℕ, List, true, Result, Ok, Err}
use Rattle.definition.specs.Search.{Rule}
use Rattle.definition.specs.Tries.{Try, done, failed}
use Rattle.snowball.specs.declared.env.Env.{Env}
use Rattle.snowball.specs.Rows.{rows_of, byte_table, plain}

-- The code's answer is the definition's: both succeed or both fail, and the environment stands for what is left. S says what an environment stands for
-- where the step succeeds, and F where it fails.
abbrev pub Answers : {A : Type 0} (S F : Env → A → Type 0) → Result Env Env → Try A → Type 0
Answers S F (Ok e) (done a) = S e a
Answers S F (Ok e) (failed a) = ⊥
Answers S F (Err e) (done a) = ⊥
Answers S F (Err e) (failed a) = F e a

-- the columns of a table, and the guards by class, are those of the definition's rule
pub record IsRule (r : Rule) (rows : List (List ℕ)) (lens classes least : List ℕ) : Type 0 where
  pub table : rows_of rows lens classes ≡ byte_table r.table
  pub letters : plain r.table ≡ true
  pub guards : least ≡ r.guards
