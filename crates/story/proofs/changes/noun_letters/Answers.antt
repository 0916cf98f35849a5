-- `noun_letters` meets its contract: in each arm the row of the step's table. Assumes nothing.
use mathlib.Core.Path.{refl}
use native.Mathlib.Omega.{arith}
use Rattle.definition.specs.Tables.{A_11, A_12, A_13, A_14, A_15, A_16}
use Rattle.definition.specs.Endings.{suffix}
use Rattle.utf8.specs.Utf8.{encode1, encode}
use Rattle.history.specs.Steps.{table_of}
use Rattle.story.specs.Telling.{noted_step}
use Rattle.story.proofs.NotedRows.{row_below, row_spelt}
use Rattle.story.proofs.changes.noun_letters.Goals as goal

pub row-requires : goal.row-requires
unfolding noted_step table_of suffix A_11
row-requires c = row_below c.args.step c.args.row 4 c.in-4.is c.requires.0

pub returns-in-4 : goal.returns-in-4
unfolding noted_step table_of suffix A_11 encode encode1
returns-in-4 c = row_spelt c.args.step c.args.row 4 c.in-4.is c.requires.0 c.row.result.now (c.row.ensures.letters (table_of (noted_step 4)) refl refl)

pub row-requires-in-5 : goal.row-requires-in-5
unfolding noted_step table_of suffix A_12
row-requires-in-5 c = row_below c.args.step c.args.row 5 c.in-5.is c.requires.0

pub returns-in-5 : goal.returns-in-5
unfolding noted_step table_of suffix A_12 encode encode1
returns-in-5 c = row_spelt c.args.step c.args.row 5 c.in-5.is c.requires.0 c.row-in-5.result.now (c.row-in-5.ensures.letters (table_of (noted_step 5)) refl refl)

pub row-requires-in-6 : goal.row-requires-in-6
unfolding noted_step table_of suffix A_13
row-requires-in-6 c = row_below c.args.step c.args.row 6 c.in-6.is c.requires.0

pub returns-in-6 : goal.returns-in-6
unfolding noted_step table_of suffix A_13 encode encode1
returns-in-6 c = row_spelt c.args.step c.args.row 6 c.in-6.is c.requires.0 c.row-in-6.result.now (c.row-in-6.ensures.letters (table_of (noted_step 6)) refl refl)

pub row-requires-in-7 : goal.row-requires-in-7
unfolding noted_step table_of suffix A_14
row-requires-in-7 c = row_below c.args.step c.args.row 7 c.in-7.is c.requires.0

pub returns-in-7 : goal.returns-in-7
unfolding noted_step table_of suffix A_14 encode encode1
returns-in-7 c = row_spelt c.args.step c.args.row 7 c.in-7.is c.requires.0 c.row-in-7.result.now (c.row-in-7.ensures.letters (table_of (noted_step 7)) refl refl)

pub row-requires-in-8 : goal.row-requires-in-8
unfolding noted_step table_of suffix A_15
row-requires-in-8 c = row_below c.args.step c.args.row 8 c.in-8.is c.requires.0

pub returns-in-8 : goal.returns-in-8
unfolding noted_step table_of suffix A_15 encode encode1
returns-in-8 c = row_spelt c.args.step c.args.row 8 c.in-8.is c.requires.0 c.row-in-8.result.now (c.row-in-8.ensures.letters (table_of (noted_step 8)) refl refl)

pub row-requires-in_default : goal.row-requires-in_default
unfolding noted_step table_of suffix A_16
row-requires-in_default c = row_below c.args.step c.args.row 9 (omega (arith, c.requires.0.0, c.requires.1, c.in_default)) c.requires.0

pub returns-in_default : goal.returns-in_default
unfolding noted_step table_of suffix A_16 encode encode1
returns-in_default c = row_spelt c.args.step c.args.row 9 (omega (arith, c.requires.0.0, c.requires.1, c.in_default)) c.requires.0 c.row-in_default.result.now (c.row-in_default.ensures.letters (table_of (noted_step 9)) refl refl)
