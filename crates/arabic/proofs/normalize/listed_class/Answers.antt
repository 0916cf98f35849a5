-- `normalize::listed_class` meets its contract: the library's search finds the letter's row. Assumes nothing.
use Rattle.std.proofs.Common.{rules}
use Rattle.std.proofs.lemmas.List.Sorted.{searched}
use Rattle.arabic.specs.Rows.{keys, classes}
use Rattle.arabic.proofs.Halving.{rise, answered}
use Rattle.definition.specs.Tables.{A_0}
use Rattle.arabic.proofs.normalize.listed_class.Goals as goal

pub returns : goal.returns
unfolding keys classes A_0
returns c =
    let a = c.args in
    let s = c.binary_search in
    answered a.c s.result c.ok.result c.map.result (searched keys a.c s.result s.ensures.position rise) c.ok.ensures.value (search rules)
