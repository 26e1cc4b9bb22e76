use Rattle.std.proofs.Common.{ℕ, ◌<◌, ◌↔◌}
use Rattle.grades.specs.Pairs.{Related}
use Rattle.shelf.specs.Grading.{HoldAt}
use Rattle.shelf.proofs.grading.related.Given as goal

abbrev pub invariant-loop-first : goal.invariant-loop-first
invariant-loop-first l = (i j : ℕ) → Related l.pairs i j ↔ ((i < l.first) × HoldAt l.kind l.slots i j)
