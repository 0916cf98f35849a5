-- `rows::write_rows` is safe: the steps get a word that is well formed. Assumes nothing.
use Rattle.stemmer.specs.Entries.{letters}
use Rattle.stemmer.proofs.Answers.{scalars, spelling}
use Rattle.recorded.proofs.rows.write_rows.Goals as goal

pub checked-kind-requires : goal.checked-kind-requires
checked-kind-requires g c =
    let w = c.in-Ok.word.bytes.now in
    let e = c.in-Ok.word.accepted in
    record { word = letters w; encodes = (scalars w e, spelling w e) }
