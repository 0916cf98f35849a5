-- `well_formed` meets its contract: the word is well formed just where what is left of it is, from the state kept. Assumes nothing.
use borrow.Author.Rules.{rules}
use Rattle.utf8.proofs.Read.{reads_start, reads_next, reads_none, reads_end}
use Rattle.utf8.proofs.well_formed.Goals as goal

pub loop-byte-init : goal.loop-byte-init
loop-byte-init c = reads_start c.args.word.now

pub returns-in_default : goal.returns-in_default
returns-in_default c = reads_none c.loop-byte.invariant c.loop-byte-test.true c.next.result c.next.ensures (search rules)

pub loop-byte-preserved : goal.loop-byte-preserved
loop-byte-preserved c = reads_next c.loop-byte.invariant c.loop-byte-test.true c.next.result c.in-Some.next c.next.ensures c.in-Some.is

pub returns : goal.returns
returns c = reads_end c.loop-byte.invariant c.eq.result c.loop-byte-test.false (search rules)
