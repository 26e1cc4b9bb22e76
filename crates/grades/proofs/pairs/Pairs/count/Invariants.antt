use Rattle.std.proofs.Common.{◌*◌, ◌≤◌}
use Rattle.grades.specs.Pairs.{PairCount}
use Rattle.grades.proofs.Counting.{BelowRow}
use Rattle.grades.proofs.pairs.Pairs.count.Given as goal

abbrev pub invariant-loop-row : goal.invariant-loop-row
invariant-loop-row l = record {
  counted : PairCount (BelowRow l.self l.row-index) l.total;
  few : l.total ≤ 64 * l.row-index;
}
