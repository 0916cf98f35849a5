-- `normalize::class_gives` meets its contract: it reads what the classes give. Assumes nothing.
use Rattle.std.proofs.Common.{rules}
use Rattle.utf8.specs.Utf8.{encode, encode1}
use Rattle.definition.specs.Normal.{gives, listed_for}
use Rattle.arabic.specs.Rows.{all_gives}
use Rattle.arabic.proofs.Gives.{gives_at}
use Rattle.arabic.proofs.normalize.class_gives.Goals as goal

pub returns : goal.returns
unfolding all_gives gives listed_for encode encode1
returns c = let q = c.from.ensures in search (gives_at, rules)
