use Rattle.std.proofs.Common.{arith, get_or}
use Rattle.std.proofs.lemmas.Nat.{ones-le}
use Rattle.grades.proofs.Counting.{one_row_more, all_rows}
use Rattle.grades.proofs.pairs.Pairs.count.Goals as goal

pub loop-row-preserved : goal.loop-row-preserved
loop-row-preserved c =
    let row = get_or c.args.self.now.rows c.loop-row.row-index 0 in
    record {
      counted = one_row_more c.args.self.now c.loop-row.row-index c.loop-row.total c.loop-row-test.true c.loop-row-test.element_fits.fits c.loop-row.invariant.counted;
      few = let few = ones-le 64 row c.loop-row-test.element_fits.fits in omega (arith, c.loop-row.invariant.few);
    }

pub returns : goal.returns
returns c = all_rows _ c.loop-row.row-index _ (omega arith) c.loop-row.invariant.counted
