-- `copy_plain` meets its contract: the letter's bytes are the two from the cursor on. Assumes nothing.
use Prim.Native.Nat.{◌+◌, ◌-◌}
use native.Mathlib.Omega.{arith}
use Rattle.plain_letters.proofs.Ranges.{inside, copied}
use Rattle.plain_letters.proofs.copy_plain.Goals as goal

pub overflow_add-cursor : goal.overflow_add-cursor
overflow_add-cursor c = omega (arith, inside c.args.text.now c.args.cursor c.requires.some_letter.0 c.requires.some_letter.1)

pub slice_bounds-put_bytes-end : goal.slice_bounds-put_bytes-end
slice_bounds-put_bytes-end c = omega (arith, inside c.args.text.now c.args.cursor c.requires.some_letter.0 c.requires.some_letter.1)

pub returns : goal.returns
returns c =
    let a = c.args in
    let s = c.requires.some_letter in
    λ x t l. copied a.text.now a.cursor s.0 s.1 x t l (a.cursor + 2 - a.cursor) (omega arith) c.put_bytes.ensures
