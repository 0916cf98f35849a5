-- `put_numbers` meets its contract: each turn writes the place of one letter. Assumes nothing.
use mathlib.Core.Path.{sym, subst}
use Prim.Native.Nat.{ℕ, ◌+◌}
use native.Mathlib.Omega.{arith}
use lib.ListN.{set}
use Rattle.utf8.proofs.Ahead.{letter, moves}
use Rattle.stemmer.proofs.Numbering.{Inv, start, in_numbers, turn, done_all}
use Rattle.stemmer.proofs.numbers.put_numbers.Goals as goal

pub loop-cursor-init : goal.loop-cursor-init
loop-cursor-init c = start c.args.text.now c.args.beside.now c.args.numbers.now c.requires.spelt

pub bounds-numbers-count : goal.bounds-numbers-count
bounds-numbers-count c = in_numbers c.loop-cursor.invariant (omega arith) c.requires.fits.1

pub read_letter-cursor-requires : goal.read_letter-cursor-requires
read_letter-cursor-requires c = letter c.loop-cursor.invariant.to (omega arith)

pub overflow_add-cursor : goal.overflow_add-cursor
overflow_add-cursor c = let l = c.read_letter-cursor in omega (arith, moves c.loop-cursor.invariant.to (omega arith) l.result l.ensures)

pub loop-cursor-smaller : goal.loop-cursor-smaller
loop-cursor-smaller c = let l = c.read_letter-cursor in omega (arith, moves c.loop-cursor.invariant.to (omega arith) l.result l.ensures)

pub loop-cursor-preserved : goal.loop-cursor-preserved
loop-cursor-preserved c =
    let l = c.read_letter-cursor in
    let v = c.loop-cursor.invariant in
    subst (λ (p : ℕ). Inv c.args.text.now c.args.beside.now c.args.numbers.now (c.loop-cursor.cursor + l.result.width) (set c.loop-cursor.numbers c.loop-cursor.count p) (c.loop-cursor.count + 1)) (sym c.from.ensures)
    (turn v (omega arith) l.result l.ensures (in_numbers v (omega arith) c.requires.fits.1))

pub returns : goal.returns
returns c = done_all c.loop-cursor.invariant c.loop-cursor-test.false
