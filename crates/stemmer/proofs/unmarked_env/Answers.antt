-- `unmarked_env` meets its contract: a word with no mark stays as it is typed, and else the marks are taken out of the environment's arrays. Assumes nothing.
use native.Mathlib.Omega.{arith}
use mathlib.Core.Path.{◌≡◌}
use borrow.Author.Rules.{rules}
use lib.ListN.{length}
use Rattle.snowball.specs.Stands.{work_size}
use Rattle.stemmer.specs.Entries.{letters}
use Rattle.stemmer.proofs.Answers.{short, scalars, spelling}
use Rattle.stemmer.proofs.Without.{taken_short, all_left, some_left}
use Rattle.stemmer.proofs.unmarked_env.Goals as goal

pub take_out-count-requires-clause-fits : goal.take_out-count-requires-clause-fits
take_out-count-requires-clause-fits c =
    let s = short c.args.word.now c.requires in
    let e = c.create-env.result in
    let n : length e.current ≡ work_size = search rules in
    let m : length e.places ≡ work_size = search rules in
    omega arith

pub returns-then-has_mark : goal.returns-then-has_mark
returns-then-has_mark c =
    let w = c.args.word.now in
    let t = c.take_out-count in
    let e = c.create-env.ensures.0 in
    let s = taken_short w c.requires t.new.out t.result t.new.places t.ensures in
    (some_left w c.requires t.new.out t.new.places t.result _ _ t.ensures (omega arith) e.cursor e.limit_backward, s)

pub returns-else-has_mark : goal.returns-else-has_mark
returns-else-has_mark c =
    let w = c.args.word.now in
    let m = c.has_mark in
    let e = c.create-env in (
      all_left w c.requires m.result m.ensures c.if-has_mark.false e.result (e.ensures.1 (letters w) (scalars w c.requires) (spelling w c.requires)),
      omega (arith, e.ensures.0.limit, short w c.requires),
    )
