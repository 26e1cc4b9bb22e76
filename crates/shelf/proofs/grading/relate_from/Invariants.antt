use Rattle.std.proofs.Common.{◌≡◌, ℕ, ◌<◌, ◌⊎◌, ◌↔◌}
use Rattle.grades.specs.Pairs.{Related}
use Rattle.shelf.specs.Grading.{HoldAt}
use Rattle.shelf.proofs.grading.relate_from.Given as goal

abbrev pub invariant-loop-second : goal.invariant-loop-second
invariant-loop-second l =
    (i j : ℕ) → Related l.pairs i j ↔ (Related l.fn.pairs i j ⊎ ((i ≡ l.first) × (j < l.second) × HoldAt l.kind l.slots i j))
