-- `rows::Word::at_end` meets its contract: the cursor goes to the end of the word. Assumes nothing.
use Rattle.definition.specs.Endings.{uncut}
use Rattle.arabic.proofs.Items.{to_end, none_cut}
use Rattle.recorded.proofs.rows.Word.at_end.Goals as goal

pub returns : goal.returns
returns c =
    let f = c.at_front-env in
    let w = f.ensures.0 in
    let ps = f.ensures.1.0 in
    (uncut w, (ps, none_cut _ w ps (to_end f.result w ps f.ensures.1.1.0) f.ensures.1.1.1))
