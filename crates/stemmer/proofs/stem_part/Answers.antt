-- `stem_part` meets its contract: the part has as many bytes as `stem_front` counts. Assumes nothing.
use mathlib.Core.Path.{sym}
use Prim.Native.Nat.{◌≤◌}
use native.Mathlib.Omega.{arith}
use lib.ListN.{length}
use lib.Seq.{length-take-le}
use Rattle.definition.specs.Stem.{stem}
use Rattle.definition.specs.Floating.{without_marks}
use Rattle.stemmer.proofs.Answers.{count_within, part_is}
use Rattle.stemmer.proofs.stem_part.Goals as goal

pub slice_bounds-result-end : goal.slice_bounds-result-end
slice_bounds-result-end c =
    let a = c.args in
    let s = c.stem_front-count in
    let h : s.result ≤ length s.new.out = omega (arith, count_within (without_marks stem) a.word.now a.out.now, s.ensures.value, s.auto) in
    sym (length-take-le s.result s.new.out h)

pub returns-clause-result_value : goal.returns-clause-result_value
returns-clause-result_value c =
    let a = c.args in
    let s = c.stem_front-count in rw (s.ensures.value, s.ensures.out_after) (part_is (without_marks stem) a.word.now a.out.now)
