-- `has_mark` meets its contract: a word with no byte EF, or with none B9, has no mark. Assumes nothing.
use mathlib.Core.Path.{sym, subst, ◌∙◌}
use native.Mathlib.Omega.{arith}
use lib.ListN.{length}
use Rattle.floating_marks.specs.Marked.{TellsByte}
use Rattle.floating_marks.proofs.Bytes.{second_in_marks}
use Rattle.floating_marks.proofs.Finding.{none_without, no_first}
use Rattle.floating_marks.proofs.has_mark.Goals as goal
use Rattle.floating_marks.proofs.has_mark.Goals.{then-has_byte, else-has_byte}

pub returns-else-has_byte-2 : goal.returns-else-has_byte-2
returns-else-has_byte-2 c =
    let word = c.args.word.now in
    let no = c.if-has_byte-2.false in
    elim c.if-has_byte.branch [
      | then-has_byte w ↦
          let t = subst (TellsByte 0xB9 word 0 (length word)) (sym w.value-is ∙ no) w.has_byte-then-has_byte.ensures in
          none_without 0xB9 1 second_in_marks word (λ k h e. t k (omega arith) h e) c.if-has_byte.value no
      | else-has_byte w ↦ λ cs e. no ∙ no_first word (subst (TellsByte 0xEF word 0 (length word)) w.if-has_byte.false c.has_byte.ensures) cs e
    ]
