-- `take_out` meets its contract: each turn reads a letter, and writes it if it is no mark. Assumes nothing.
use mathlib.Core.Path.{refl}
use native.Mathlib.Omega.{arith}
use lib.ListN.{length}
use Rattle.utf8.proofs.Ahead.{letter, moves}
use Rattle.floating_marks.proofs.Taking.{start, mark_turn, code_top, fits, in_places, letter_turn, done}
use Rattle.floating_marks.proofs.take_out.Goals as goal
use Rattle.floating_marks.proofs.take_out.Goals.{then-not-is_mark, else-not-is_mark}

pub loop-cursor-init : goal.loop-cursor-init
loop-cursor-init c = start c.args.word.now (length c.args.out.now) (length c.args.places.now) c.args.out.now c.args.places.now c.requires.spelt refl refl

pub read_letter-letter-requires : goal.read_letter-letter-requires
read_letter-letter-requires c = letter c.loop-cursor.invariant.to (omega arith)

pub put_letter-end-requires : goal.put_letter-end-requires
put_letter-end-requires c =
    let l = c.read_letter-letter in
    let v = c.loop-cursor.invariant in
    (omega (arith, fits v (omega arith) l.result l.ensures c.requires.fits.1, v.size), code_top v (omega arith) l.result l.ensures)

pub overflow_add-cursor : goal.overflow_add-cursor
overflow_add-cursor c = let l = c.read_letter-letter in omega (arith, moves c.loop-cursor.invariant.to (omega arith) l.result l.ensures)

pub loop-cursor-smaller : goal.loop-cursor-smaller
loop-cursor-smaller c = let l = c.read_letter-letter in omega (arith, moves c.loop-cursor.invariant.to (omega arith) l.result l.ensures)

pub returns : goal.returns
returns c = done c.loop-cursor.invariant c.requires.fits.1 c.loop-cursor-test.false

pub loop-cursor-preserved : goal.loop-cursor-preserved
loop-cursor-preserved c =
    let l = c.read_letter-letter in
    let m = c.is_mark in
    let v = c.loop-cursor.invariant in
    elim c.if-not-is_mark.branch [
      | then-not-is_mark w ↦ let p = w.put_letter-end in
          rw (w.out-is, w.end-is, w.places-is) (letter_turn v (omega arith) l.result l.ensures m.result m.ensures w.if-not-is_mark.true p.result p.new.out p.ensures (in_places v (omega arith) l.result l.ensures c.requires.fits.2))
      | else-not-is_mark w ↦ rw (w.out-is, w.end-is, w.places-is) (mark_turn v (omega arith) l.result l.ensures m.result m.ensures w.if-not-is_mark.false)
    ]
