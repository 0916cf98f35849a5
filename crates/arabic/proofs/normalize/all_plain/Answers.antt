-- `normalize::all_plain` meets its contract: each turn passes a plain letter. Assumes nothing.
use native.Mathlib.Omega.{arith}
use Rattle.utf8.proofs.Ahead.{letter}
use Rattle.arabic.proofs.Passing.{start, stopped, turn, done}
use Rattle.arabic.proofs.normalize.all_plain.Goals as goal

pub loop-cursor-init : goal.loop-cursor-init
loop-cursor-init c = start c.args.text.now c.requires

pub plain_at-plain-requires : goal.plain_at-plain-requires
plain_at-plain-requires c = letter c.loop-cursor.invariant.to (omega arith)

pub returns-then-not-plain : goal.returns-then-not-plain
returns-then-not-plain c =
    let p = c.plain_at-plain in
    stopped c.loop-cursor.invariant (omega arith) p.result p.ensures c.if-not-plain.true

pub loop-cursor-preserved : goal.loop-cursor-preserved
loop-cursor-preserved c =
    let p = c.plain_at-plain in
    turn c.loop-cursor.invariant (omega arith) p.result p.ensures c.if-not-plain.false

pub returns : goal.returns
returns c = done c.loop-cursor.invariant c.loop-cursor-test.false
