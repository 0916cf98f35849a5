-- `stands_at` meets its contract, by the library's `starts_with`. Assumes nothing.
use Rattle.snowball.proofs.Match.{stands_found}
use Rattle.snowball.proofs.env.stands_at.Goals as goal

pub returns-then-cursor-text : goal.returns-then-cursor-text
returns-then-cursor-text c =
    let x = c.args in
    stands_found c.starts_with.result x.text.now x.cursor x.key.now c.if-cursor-text.true c.starts_with.ensures.value
