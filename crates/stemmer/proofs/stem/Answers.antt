-- `stem` meets its contract: that of the entry with places, with a buffer that is always long enough. Assumes nothing.
use mathlib.Core.Path.{refl}
use mathlib.Core.List.{List}
use Prim.Native.Nat.{ℕ}
use lib.ListN.{replicate}
use Rattle.std.proofs.Common.{rules}
use Rattle.stemmer.proofs.Placing.{plain, left_out}
use Rattle.stemmer.proofs.stem.Goals as goal

pub returns : goal.returns
returns c =
    let w = c.args.word.now in
    let o = c.args.out.now in
    let s = c.stem_places in
    let n : List ℕ = replicate 255 0 in
    plain w o n refl s.result s.new.out s.new.numbers s.ensures c.map.result
    (left_out w o n refl s.result s.new.out s.new.numbers s.ensures c.map.result (λ q t k. search rules) c.map.ensures.cases)
