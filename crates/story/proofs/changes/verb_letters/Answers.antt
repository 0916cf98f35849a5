-- `verb_letters` meets its contract: in each arm the row of the step's table. Assumes nothing.
use mathlib.Core.Path.{refl}
use native.Mathlib.Omega.{arith}
use Rattle.definition.specs.Tables.{A_17, A_18, A_19, A_20}
use Rattle.definition.specs.Endings.{suffix}
use Rattle.utf8.specs.Utf8.{encode1, encode}
use Rattle.history.specs.Steps.{table_of}
use Rattle.story.specs.Telling.{noted_step}
use Rattle.story.proofs.NotedRows.{row_below, row_spelt}
use Rattle.story.proofs.changes.verb_letters.Goals as goal

pub row-requires : goal.row-requires
unfolding noted_step table_of suffix A_17
row-requires c = row_below c.args.step c.args.row 0 c.in-0.is c.requires.0

pub returns-in-0 : goal.returns-in-0
unfolding noted_step table_of suffix A_17 encode encode1
returns-in-0 c = row_spelt c.args.step c.args.row 0 c.in-0.is c.requires.0 c.row.result.now (c.row.ensures.letters (table_of (noted_step 0)) refl refl)

pub row-requires-in-1 : goal.row-requires-in-1
unfolding noted_step table_of suffix A_18
row-requires-in-1 c = row_below c.args.step c.args.row 1 c.in-1.is c.requires.0

pub returns-in-1 : goal.returns-in-1
unfolding noted_step table_of suffix A_18 encode encode1
returns-in-1 c = row_spelt c.args.step c.args.row 1 c.in-1.is c.requires.0 c.row-in-1.result.now (c.row-in-1.ensures.letters (table_of (noted_step 1)) refl refl)

pub row-requires-in-2 : goal.row-requires-in-2
unfolding noted_step table_of suffix A_19
row-requires-in-2 c = row_below c.args.step c.args.row 2 c.in-2.is c.requires.0

pub returns-in-2 : goal.returns-in-2
unfolding noted_step table_of suffix A_19 encode encode1
returns-in-2 c = row_spelt c.args.step c.args.row 2 c.in-2.is c.requires.0 c.row-in-2.result.now (c.row-in-2.ensures.letters (table_of (noted_step 2)) refl refl)

pub row-requires-in_default : goal.row-requires-in_default
unfolding noted_step table_of suffix A_20
row-requires-in_default c = row_below c.args.step c.args.row 3 (omega (arith, c.requires.0.0, c.requires.1, c.in_default)) c.requires.0

pub returns-in_default : goal.returns-in_default
unfolding noted_step table_of suffix A_20 encode encode1
returns-in_default c = row_spelt c.args.step c.args.row 3 (omega (arith, c.requires.0.0, c.requires.1, c.in_default)) c.requires.0 c.row-in_default.result.now (c.row-in_default.ensures.letters (table_of (noted_step 3)) refl refl)
