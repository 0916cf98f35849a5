-- `letters::put_bytes` meets its contract: the part of out becomes the bytes. Assumes nothing.
use mathlib.Core.Path.{refl}
use borrow.Author.Rules.{rules}
use Rattle.std.proofs.lemmas.Slice.{overwrites}
use Rattle.utf8.proofs.letters.put_bytes.Goals as goal

pub returns : goal.returns
returns c = record { end = refl; bytes = search (rules, overwrites); rest = search (rules, overwrites); size = search (rules, overwrites) }
