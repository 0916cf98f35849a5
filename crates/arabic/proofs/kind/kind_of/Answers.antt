-- `kind::kind_of` meets its contract: its table is A_3, with its guards. Assumes nothing.
use mathlib.Core.Path.{refl, sym, ◌∙◌}
use mathlib.Core.Bool.{true, false}
use Rattle.definition.specs.Tables.{A_3}
use Rattle.utf8.specs.Utf8.{encode1, encode}
use Rattle.arabic.proofs.Guarded.{whole}
use Rattle.arabic.proofs.Checking.{checks}
use Rattle.arabic.proofs.kind.kind_of.Goals as goal

pub returns-then-defined : goal.returns-then-defined
unfolding A_3 encode encode1
returns-then-defined c =
    let f = c.find_among-found in
    λ w e. checks w 0 f.result (f.ensures.ahead A_3 refl refl w e.0 (whole c.args.text.now ∙ e.1)) true (sym c.if-defined.true ∙ c.met-defined.ensures w e.1)

pub returns-else-defined : goal.returns-else-defined
unfolding A_3 encode encode1
returns-else-defined c =
    let f = c.find_among-found in
    λ w e. checks w 0 f.result (f.ensures.ahead A_3 refl refl w e.0 (whole c.args.text.now ∙ e.1)) false (sym c.if-defined.false ∙ c.met-defined.ensures w e.1)
