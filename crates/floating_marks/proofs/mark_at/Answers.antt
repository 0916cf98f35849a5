-- `mark_at` meets its contract: a letter that begins with EF has three bytes, and B9 is the second of every mark. Assumes nothing.
use mathlib.Core.Path.{ap, ◌∙◌}
use Prim.Native.Nat.{◌+◌}
use native.Mathlib.Omega.{arith}
use borrow.Author.Tests.{ne_eqb}
use lib.ListN.{get_or}
use Rattle.utf8.proofs.ReadLetter.{room_3}
use Rattle.definition.specs.Floating.{floating}
use Rattle.floating_marks.proofs.Bytes.{by_last, second-other}
use Rattle.floating_marks.proofs.mark_at.Goals as goal

pub bounds-word-place : goal.bounds-word-place
bounds-word-place c = omega (arith, room_3 c.args.word.now c.args.place c.requires.letter (omega (arith, c.requires.first)))

pub bounds-word-place-then-word-place : goal.bounds-word-place-then-word-place
bounds-word-place-then-word-place c = omega (arith, room_3 c.args.word.now c.args.place c.requires.letter (omega (arith, c.requires.first)))

pub returns-then-word-place : goal.returns-then-word-place
returns-then-word-place c = λ x t l.
    c.is_mark.ensures
    ∙ ap floating (omega (arith, c.from.ensures, by_last c.args.word.now c.args.place x t l c.requires.first (omega (arith, c.if-word-place.true))))

pub returns-else-word-place : goal.returns-else-word-place
returns-else-word-place c = λ x t l.
    let word = c.args.word.now in
    let place = c.args.place in
    let no = c.if-word-place.false in
    ne_eqb (get_or word (place + 1) 0) 0xB9 no ∙ second-other word place x t l c.requires.first no
