-- `front_letters` meets its contract: in each arm the row of the step's table. Assumes nothing.
use mathlib.Core.Path.{refl}
use native.Mathlib.Omega.{arith}
use Rattle.definition.specs.Tables.{A_4, A_5, A_6, A_7, A_8, A_9}
use Rattle.definition.specs.Fronts.{prefix}
use Rattle.utf8.specs.Utf8.{encode1, encode}
use Rattle.history.specs.Steps.{table_of}
use Rattle.story.specs.Telling.{noted_step}
use Rattle.story.proofs.NotedRows.{row_below, row_spelt}
use Rattle.story.proofs.changes.front_letters.Goals as goal

pub row-requires : goal.row-requires
unfolding noted_step table_of prefix A_4
row-requires c = row_below c.args.step c.args.row 10 c.in-10.is c.requires.0

pub returns-in-10 : goal.returns-in-10
unfolding noted_step table_of prefix A_4 encode encode1
returns-in-10 c = row_spelt c.args.step c.args.row 10 c.in-10.is c.requires.0 c.row.result.now (c.row.ensures.letters (table_of (noted_step 10)) refl refl)

pub row-requires-in-11 : goal.row-requires-in-11
unfolding noted_step table_of prefix A_5
row-requires-in-11 c = row_below c.args.step c.args.row 11 c.in-11.is c.requires.0

pub returns-in-11 : goal.returns-in-11
unfolding noted_step table_of prefix A_5 encode encode1
returns-in-11 c = row_spelt c.args.step c.args.row 11 c.in-11.is c.requires.0 c.row-in-11.result.now (c.row-in-11.ensures.letters (table_of (noted_step 11)) refl refl)

pub row-requires-in-12 : goal.row-requires-in-12
unfolding noted_step table_of prefix A_6
row-requires-in-12 c = row_below c.args.step c.args.row 12 c.in-12.is c.requires.0

pub returns-in-12 : goal.returns-in-12
unfolding noted_step table_of prefix A_6 encode encode1
returns-in-12 c = row_spelt c.args.step c.args.row 12 c.in-12.is c.requires.0 c.row-in-12.result.now (c.row-in-12.ensures.letters (table_of (noted_step 12)) refl refl)

pub row-requires-in-13 : goal.row-requires-in-13
unfolding noted_step table_of prefix A_7
row-requires-in-13 c = row_below c.args.step c.args.row 13 c.in-13.is c.requires.0

pub returns-in-13 : goal.returns-in-13
unfolding noted_step table_of prefix A_7 encode encode1
returns-in-13 c = row_spelt c.args.step c.args.row 13 c.in-13.is c.requires.0 c.row-in-13.result.now (c.row-in-13.ensures.letters (table_of (noted_step 13)) refl refl)

pub row-requires-in-14 : goal.row-requires-in-14
unfolding noted_step table_of prefix A_8
row-requires-in-14 c = row_below c.args.step c.args.row 14 c.in-14.is c.requires.0

pub returns-in-14 : goal.returns-in-14
unfolding noted_step table_of prefix A_8 encode encode1
returns-in-14 c = row_spelt c.args.step c.args.row 14 c.in-14.is c.requires.0 c.row-in-14.result.now (c.row-in-14.ensures.letters (table_of (noted_step 14)) refl refl)

pub row-requires-in_default : goal.row-requires-in_default
unfolding noted_step table_of prefix A_9
row-requires-in_default c = row_below c.args.step c.args.row 15 (omega (arith, c.requires.0.0, c.requires.1, c.in_default)) c.requires.0

pub returns-in_default : goal.returns-in_default
unfolding noted_step table_of prefix A_9 encode encode1
returns-in_default c = row_spelt c.args.step c.args.row 15 (omega (arith, c.requires.0.0, c.requires.1, c.in_default)) c.requires.0 c.row-in_default.result.now (c.row-in_default.ensures.letters (table_of (noted_step 15)) refl refl)
