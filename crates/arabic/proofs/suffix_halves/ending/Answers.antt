-- `suffix_halves::ending` meets its contract: the longest row, its guard and the letter count decide as the definition does. Assumes nothing.
use mathlib.Core.Path.{sym, ap, ◌∙◌, subst}
use mathlib.Core.List.{List}
use Prim.Native.Nat.{ℕ}
use lib.ListN.{length}
use Rattle.std.specs.Prelude.{Option}
use Rattle.definition.specs.Search.{met}
use Rattle.definition.specs.Endings.{suffix}
use Rattle.arabic.specs.Endings.{TakesEnding}
use Rattle.arabic.proofs.Guarded.{whole}
use Rattle.arabic.proofs.Ending.{takes_ending}
use Rattle.arabic.proofs.suffix_halves.ending.Goals as goal

pub returns-clause-takes_ending : goal.returns-clause-takes_ending
returns-clause-takes_ending c =
    let t = c.args.text.now in
    let f = c.find_among_b-found in
    λ s q w e.
    subst (λ (o : Option ℕ). TakesEnding s w (length t) (record { row = f.result.row; outcome = o })) (sym c.then_some.ensures)
    (takes_ending s w (length t) f.result (f.ensures.behind (suffix s).table q.table q.letters w e.0 (whole t ∙ e.1)) c.met-taken.result
    (c.met-taken.ensures w e.1 ∙ ap (λ (guards : List ℕ). met guards f.result.class (length w)) q.guards))
