-- `put_letters` meets its contract: each turn writes one letter. Assumes nothing.
use native.Mathlib.Omega.{arith}
use Rattle.utf8.proofs.Ahead.{letter, moves}
use Rattle.story.proofs.Spelling.{start, plus_fits, hex_fits, turn, done}
use Rattle.story.proofs.page.put_letters.Goals as goal

pub loop-cursor-init : goal.loop-cursor-init
loop-cursor-init c = let r = c.requires in start c.args.row.now c.args.page.now r.0 r.1.0 r.1.1.0 r.1.1.1

pub put_plus-requires : goal.put_plus-requires
put_plus-requires c = plus_fits c.loop-cursor.invariant (omega arith)

pub read_letter-letter-requires : goal.read_letter-letter-requires
read_letter-letter-requires c = letter c.loop-cursor.invariant.to (omega arith)

pub put_hex-requires : goal.put_hex-requires
put_hex-requires c = let l = c.read_letter-letter in hex_fits c.loop-cursor.invariant (omega arith) c.put_plus.new.page c.put_plus.ensures l.result l.ensures

pub overflow_add-cursor : goal.overflow_add-cursor
overflow_add-cursor c = let l = c.read_letter-letter in omega (arith, moves c.loop-cursor.invariant.to (omega arith) l.result l.ensures)

pub loop-cursor-smaller : goal.loop-cursor-smaller
loop-cursor-smaller c = let l = c.read_letter-letter in omega (arith, moves c.loop-cursor.invariant.to (omega arith) l.result l.ensures)

pub loop-cursor-preserved : goal.loop-cursor-preserved
loop-cursor-preserved c =
    let l = c.read_letter-letter in
    turn c.loop-cursor.invariant (omega arith) c.put_plus.new.page c.put_plus.ensures l.result l.ensures c.put_hex.new.page c.put_hex.ensures

pub returns : goal.returns
returns c = done c.loop-cursor.invariant c.loop-cursor-test.false
