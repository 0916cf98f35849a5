-- `unmarked` meets its contract: a word with no mark is handed back, and else the copy is the word without them. Assumes nothing.
use mathlib.Core.Path.{sym}
use native.Mathlib.Omega.{arith}
use lib.Seq.{length-take-le}
use Rattle.stemmer.proofs.Answers.{short}
use Rattle.stemmer.proofs.Without.{itself, taken}
use Rattle.stemmer.proofs.unmarked.Goals as goal

pub returns-then-not-has_mark : goal.returns-then-not-has_mark
returns-then-not-has_mark c = let m = c.has_mark in itself c.args.word.now c.requires.0 m.result m.ensures c.if-not-has_mark.true

pub take_out-count-requires-clause-fits : goal.take_out-count-requires-clause-fits
take_out-count-requires-clause-fits c = let s = short c.args.word.now c.requires.0 in omega (arith, s, c.requires.1)

pub slice_bounds-result-end : goal.slice_bounds-result-end
slice_bounds-result-end c = let t = c.take_out-count in sym (length-take-le t.result t.new.out (taken c.args.word.now c.requires.0 t.new.out t.result t.new.places t.ensures).0)

pub returns : goal.returns
returns c = let t = c.take_out-count in (taken c.args.word.now c.requires.0 t.new.out t.result t.new.places t.ensures).1
