-- `normalize::normalize_text` meets its contract: each turn copies a plain letter, or reads another and writes what stands for it. Assumes nothing.
use mathlib.Core.Path.{◌≡◌, refl, sym, ap, ◌∙◌}
use Prim.Native.Nat.{ℕ, ◌+◌, ◌-◌, ◌≤◌}
use native.Mathlib.Omega.{arith}
use lib.ListN.{length, drop, get_or, replicate, length-drop}
use lib.Seq.{length-take-le}
use Rattle.arabic.proofs.Marking.{filled-length, filled-front, filled_at}
use Rattle.utf8.proofs.Ahead.{letter, moves}
use Rattle.arabic.proofs.Normalising.{start, plain-room, plain_turn, not_plain, small, room, turn, done_all}
use Rattle.arabic.proofs.normalize.normalize_text.Goals as goal

pub loop-cursor-init : goal.loop-cursor-init
loop-cursor-init c =
    let a = c.args in
    let p = c.requires in
    start a.text.now a.places.now a.out.now a.out_places.now p.spelt.word p.fits.1 c.told-out_places p.spelt.encodes

pub plain_at-plain-requires : goal.plain_at-plain-requires
plain_at-plain-requires c = letter c.loop-cursor.invariant.to (omega arith)

pub copy_plain-end-requires-clause-some_letter : goal.copy_plain-end-requires-clause-some_letter
copy_plain-end-requires-clause-some_letter c =
    let p = c.plain_at-plain in
    let v = c.loop-cursor.invariant in
    (letter v.to (omega arith), λ x t l. sym c.if-plain.true ∙ p.ensures x t l)

pub copy_plain-end-requires-clause-at_in_bounds : goal.copy_plain-end-requires-clause-at_in_bounds
copy_plain-end-requires-clause-at_in_bounds c =
    let p = c.plain_at-plain in
    let v = c.loop-cursor.invariant in
    omega (arith, plain-room v (omega arith) p.result p.ensures c.if-plain.true c.requires.fits.0, v.size_out)

pub loop-cursor-preserved-then-plain : goal.loop-cursor-preserved-then-plain
loop-cursor-preserved-then-plain c =
    let p = c.plain_at-plain in
    let k = c.copy_plain-end in
    let v = c.loop-cursor.invariant in
    plain_turn v (omega arith) p.result p.ensures c.if-plain.true k.result k.new.out k.ensures _ refl (omega (arith, v.size_beside, plain-room v (omega arith) p.result p.ensures c.if-plain.true c.requires.fits.0))

pub read_letter-letter-requires : goal.read_letter-letter-requires
read_letter-letter-requires c = letter c.loop-cursor.invariant.to (omega arith)

pub overflow_add-next : goal.overflow_add-next
overflow_add-next c =
    let l = c.read_letter-letter in
    omega (arith, moves c.loop-cursor.invariant.to (omega arith) l.result l.ensures, c.requires.fits.0)

pub class_of-class-requires : goal.class_of-class-requires
class_of-class-requires c =
    let l = c.read_letter-letter in
    let p = c.plain_at-plain in
    not_plain c.loop-cursor.invariant (omega arith) l.result l.ensures p.result p.ensures c.if-plain.false

pub slice_bounds-given-end : goal.slice_bounds-given-end
slice_bounds-given-end c =
    let l = c.read_letter-letter in
    omega (arith, moves c.loop-cursor.invariant.to (omega arith) l.result l.ensures)

pub given-requires : goal.given-requires
given-requires c =
    let l = c.read_letter-letter in
    small c.loop-cursor.invariant (omega arith) l.result l.ensures _ refl c.class_of-class.result c.class_of-class.ensures

pub put_bytes-end-requires : goal.put_bytes-end-requires
put_bytes-end-requires c =
    let l = c.read_letter-letter in
    let v = c.loop-cursor.invariant in
    omega (arith, room v (omega arith) l.result l.ensures _ refl c.class_of-class.result c.class_of-class.ensures c.given.result.now c.given.ensures c.requires.fits.0, v.size_out)

pub loop-cursor-smaller : goal.loop-cursor-smaller
loop-cursor-smaller c =
    let l = c.read_letter-letter in
    omega (arith, moves c.loop-cursor.invariant.to (omega arith) l.result l.ensures)

pub loop-cursor-preserved : goal.loop-cursor-preserved
loop-cursor-preserved c =
    let l = c.read_letter-letter in
    let p = c.put_bytes-end in
    let v = c.loop-cursor.invariant in
    let o = c.loop-cursor.out_places in
    let at : ℕ = c.loop-cursor.end in
    let n : p.result - at ≡ length c.given.result.now = omega (arith, p.ensures.end) in
    let r = room v (omega arith) l.result l.ensures _ refl c.class_of-class.result c.class_of-class.ensures c.given.result.now c.given.ensures c.requires.fits.0 in
    let h : at + (p.result - at) ≤ length o = omega (arith, r, v.size_beside, n) in
    let place : ℕ = get_or c.args.places.now c.loop-cursor.cursor 0 in
    let f : c.fill.new.self ≡ replicate (p.result - at) place =
    c.fill.ensures.after (λ y h. h) ∙ ap (λ (k : ℕ). replicate k place) (length-take-le (p.result - at) (drop at o) (omega (arith, h, length-drop at o))) in
    turn v (omega arith) l.result l.ensures _ refl c.class_of-class.result c.class_of-class.ensures c.given.result.now c.given.ensures p.result p.new.out p.ensures _
    (filled-length at (p.result - at) _ o c.fill.new.self f h)
    (filled-front at (p.result - at) _ o c.fill.new.self f h)
    (λ k g. filled_at at (p.result - at) _ o c.fill.new.self f h k (omega (arith, n)))

pub returns : goal.returns
returns c = λ ts e p. done_all c.loop-cursor.invariant c.loop-cursor-test.false ts e p c.requires.fits.0
