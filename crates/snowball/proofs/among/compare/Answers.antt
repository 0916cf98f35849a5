-- `among::compare` meets its contract. Assumes nothing.
use mathlib.Core.Path.{refl}
use native.Mathlib.Omega.{arith}
use Rattle.snowball.proofs.Compared.{row_done, text_done, below, less_here, more_here, same}
use Rattle.snowball.proofs.among.compare.Goals as goal

pub returns-then-common-text : goal.returns-then-common-text
returns-then-common-text g c =
    let a = text_done _ g.met.D.Direction.same_length _ _ _ c.loop-common.invariant c.loop-common-test.true c.if-common-text.true in
    record { common_value = a.common_value; less_value = a.less_value }

pub byte-a-requires : goal.byte-a-requires
byte-a-requires g c = below _ g.met.D.Direction.same_length _ _ _ c.loop-common.invariant c.loop-common-test.true c.if-common-text.false

pub returns-then-a-b : goal.returns-then-a-b
returns-then-a-b g c =
    let a = less_here _ g.met.D.Direction.same_length _ _ _ c.loop-common.invariant c.loop-common-test.true c.if-common-text.false _ _ c.byte-a.ensures c.byte-b.ensures c.if-a-b.true in
    record { common_value = a.common_value; less_value = a.less_value }

pub returns-then-b-a : goal.returns-then-b-a
returns-then-b-a g c =
    let a = more_here _ g.met.D.Direction.same_length _ _ _ c.loop-common.invariant c.loop-common-test.true c.if-common-text.false _ _ c.byte-a.ensures c.byte-b.ensures c.if-b-a.true in
    record { common_value = a.common_value; less_value = a.less_value }

pub loop-common-preserved : goal.loop-common-preserved
loop-common-preserved g c =
    same _ g.met.D.Direction.same_length _ _ _ c.loop-common.invariant c.loop-common-test.true c.if-common-text.false _ _ c.byte-a.ensures c.byte-b.ensures c.if-a-b.false c.if-b-a.false

pub returns : goal.returns
returns g c =
    let a = row_done _ g.met.D.Direction.same_length _ _ _ (omega (arith, c.loop-common.invariant)) refl in
    record { common_value = a.common_value; less_value = a.less_value }
