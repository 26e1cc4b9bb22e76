use Rattle.grades.specs.Sets.{size}
use Rattle.grades.specs.Rising.{Rising}
use Rattle.grades.proofs.numbering.least_numbering.Given as goal

abbrev pub invariant-loop-left : goal.invariant-loop-left
invariant-loop-left l = Rising l.fn.held l.at_most l.less_than l.left l.highest l.numbers

abbrev pub decreases-loop-left : goal.decreases-loop-left
decreases-loop-left l = size 64 l.left.bits
