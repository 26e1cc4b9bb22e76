use Rattle.std.proofs.Common.{◌-◌}
use Rattle.grades.specs.Sets.{size}
use Rattle.grades.proofs.Levels.{Reaching}
use Rattle.grades.proofs.numbering.above.Given as goal

abbrev pub invariant-loop-set : goal.invariant-loop-set
invariant-loop-set l = Reaching l.set l.at_most l.less_than l.found l.new

abbrev pub decreases-loop-set : goal.decreases-loop-set
decreases-loop-set l = 64 - size 64 l.found.bits
