-- `stem::cut_endings` meets its contract. Assumes nothing.
use mathlib.Core.Path.{refl}
use Rattle.definition.specs.Endings.{uncut}
use Rattle.arabic.proofs.Items.{to_end, none_cut, to_front}
use Rattle.arabic.proofs.stem.cut_endings.Goals as goal

pub suffixes-cut-requires : goal.suffixes-cut-requires
suffixes-cut-requires c = let p = c.requires.0 in ((uncut p.0, (p.1.0, none_cut _ p.0 p.1.0 (to_end c.args.env p.0 p.1.0 p.1.1) refl)), c.requires.1)

pub returns-clause-stands : goal.returns-clause-stands
returns-clause-stands c = λ w ps st. to_front c.suffixes-cut.result.outcome.env _ ps (c.suffixes-cut.ensures.stands ps w (none_cut _ w ps (to_end c.args.env w ps st) refl))

pub returns-clause-cut : goal.returns-clause-cut
returns-clause-cut c = λ w ps st.
    let e = c.suffixes-cut.ensures.cut ps w (none_cut _ w ps (to_end c.args.env w ps st) refl) in
    record { row = e.row; noted = record { made = e.noted.made; changes = e.noted.changes }; number = e.number }
