-- `has_chars` meets its contract: what the library's chain finds. Assumes nothing.
use mathlib.Core.Path.{◌≡◌, ap, ◌∙◌}
use native.Mathlib.Omega.{arith}
use lib.Dec.{leb}
use Rattle.std.proofs.Common.{rules, tests}
use Rattle.std.proofs.lemmas.Iterator.{YieldsList-from_slice}
use Rattle.std.proofs.lemmas.Iterator.Consumers.{YieldsList-from_filter, nth_from_yields_List}
use Rattle.utf8.specs.Places.{starts, leads}
use Rattle.snowball.proofs.Counting.{last_letter, leads_letters}
use Rattle.snowball.proofs.env.has_chars.Goals as goal
use Rattle.snowball.proofs.env.has_chars.Goals.{After-is_some}

found : (c : After-is_some) → c.is_some.result ≡ leb c.args.least (leads c.args.text.now)
found c =
    c.is_some.ensures
    ∙ last_letter _ c.nth.result c.args.text.now c.args.least (omega arith)
    (nth_from_yields_List _ _ _ c.nth.ensures.ran
    (YieldsList-from_filter _ starts (YieldsList-from_slice c.args.text.now cc) c.filter-starts.ensures.closure (λ x r q k. search (rules, tests))))

pub returns-else-least-eq0-clause-value : goal.returns-else-least-eq0-clause-value
returns-else-least-eq0-clause-value c = found c

pub returns-else-least-eq0-clause-by_letters : goal.returns-else-least-eq0-clause-by_letters
returns-else-least-eq0-clause-by_letters c = λ cs e. found c ∙ ap (leb c.args.least) (leads_letters c.args.text.now cs e)
