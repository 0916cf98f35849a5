-- `normalize::finish_text` meets its contract: each turn changes one letter in place, and the turns are enough for all. Assumes nothing.
use mathlib.Core.Path.{refl}
use native.Mathlib.Omega.{arith}
use Rattle.utf8.proofs.Ahead.{letter, moves}
use Rattle.arabic.proofs.Finishing.{start, letter_is, room, code_top, turn, at_end, after_turns}
use Rattle.arabic.proofs.normalize.finish_text.Goals as goal

pub loop-init : goal.loop-init
loop-init c = let p = c.requires.encodes in start c.args.text.now c.args.i_word_len p.0 p.1 p.2

pub returns-then-cursor-limit : goal.returns-then-cursor-limit
returns-then-cursor-limit c = at_end c.loop.invariant c.if-cursor-limit.true

pub read_letter-letter-requires : goal.read_letter-letter-requires
read_letter-letter-requires c = letter c.loop.invariant.to (omega arith)

pub overflow_add-end : goal.overflow_add-end
overflow_add-end c =
    let l = c.read_letter-letter in
    omega (arith, moves c.loop.invariant.to (omega arith) l.result l.ensures, c.requires.fits)

pub slice_bounds-changed_of-end : goal.slice_bounds-changed_of-end
slice_bounds-changed_of-end c =
    let l = c.read_letter-letter in
    let v = c.loop.invariant in
    omega (arith, moves v.to (omega arith) l.result l.ensures, v.size)

pub changed_of-c-requires : goal.changed_of-c-requires
changed_of-c-requires c =
    let l = c.read_letter-letter in
    letter_is c.loop.invariant (omega arith) l.result l.ensures _ refl

pub put_letter-requires : goal.put_letter-requires
put_letter-requires c =
    let v = c.loop.invariant in
    let l = c.read_letter-letter in
    let k = c.changed_of-c in
    (omega (arith, room v (omega arith) l.result l.ensures k.result k.ensures, v.size), code_top v (omega arith) l.result l.ensures k.result k.ensures)

pub loop-preserved : goal.loop-preserved
loop-preserved c =
    let l = c.read_letter-letter in
    let k = c.changed_of-c in
    let w = c.put_letter in
    turn c.loop.invariant (omega arith) l.result l.ensures k.result k.ensures w.result w.new.out w.ensures

pub returns : goal.returns
returns c = after_turns c.loop.invariant c.loop-test.false
