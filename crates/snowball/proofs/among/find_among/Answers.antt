-- `among::find_among` meets its contract. Assumes nothing.
use native.Mathlib.Omega.{arith}
use Rattle.snowball.specs.Search.{between}
use Rattle.snowball.proofs.Read.{between-length}
use Rattle.snowball.proofs.Answers.{ahead_is, ahead_bytes_is}
use Rattle.snowball.proofs.among.find_among.Goals as goal

pub returns : goal.returns
unfolding between
returns c =
    let x = c.args in
    let t = x.table.now in
    record {
      by_bytes = (
        omega (arith, c.find-found.ensures.within, between-length x.text.now x.cursor x.limit (omega arith) (omega arith)),
        omega (arith, c.find-found.ensures.within, between-length x.text.now x.cursor x.limit (omega arith) (omega arith)),
        ahead_bytes_is _ _ x.cursor c.find-found.result c.find-found.ensures.longest_row,
      );
      ahead = ahead_is _ _ x.cursor c.find-found.result c.find-found.ensures.longest_row;
    }
