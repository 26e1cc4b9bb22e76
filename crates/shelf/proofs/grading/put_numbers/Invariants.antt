use Rattle.std.proofs.Common.{◌≡◌, ◌++◌, map, take, drop, get_or}
use Rattle.shelf.proofs.grading.put_numbers.Given as goal

abbrev pub invariant-loop-place : goal.invariant-loop-place
invariant-loop-place l = l.grades ≡ map (λ i. get_or l.numbers i 0) (take l.place l.order) ++ drop l.place l.fn.grades
