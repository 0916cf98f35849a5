-- What owning an environment tells of its array. Assumes nothing.
use mathlib.Core.Path.{◌≡◌}
use mathlib.Core.List.{List}
use lib.ListN.{length}
use mir.Val.{Val}
use denote.Shadow.{shadow}
use borrow.Author.Rules.{rules}
use Rattle.snowball.specs.declared.env.Env.{Env}
use Rattle.snowball.specs.Stands.{work_size}
use Rattle.snowball.specs.contracts.env.Env.{the_row}

pub owned_length : (e : Env) (vs : List Val) → shadow (the_row.own_val e vs) → length e.current ≡ work_size
owned_length e vs o = search rules
