-- `count_chars` meets its contract, by what its loop has counted. Assumes nothing.
use mathlib.Core.Path.{◌≡◌, ◌∙◌}
use native.Mathlib.Omega.{arith}
use Rattle.utf8.specs.Places.{leads}
use Rattle.snowball.proofs.Counting.{leads_counted, leads_letters}
use Rattle.snowball.proofs.env.count_chars.Goals as goal
use Rattle.snowball.proofs.env.count_chars.Goals.{After-loop-byte}

counted : (c : After-loop-byte) → c.loop-byte.count ≡ leads c.args.text.now
counted c = leads_counted c.loop-byte.count c.loop-byte.byte-index c.args.text.now c.loop-byte.invariant.0 (omega arith)

pub returns-clause-value : goal.returns-clause-value
returns-clause-value c = counted c

pub returns-clause-by_letters : goal.returns-clause-by_letters
returns-clause-by_letters c = λ cs e. counted c ∙ leads_letters c.args.text.now cs e
