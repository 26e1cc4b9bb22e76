use Rattle.std.proofs.Common.{◌≡◌, ◌+◌, ◌⊎◌}
use Rattle.volumes.specs.Parts.{Passed}
use Rattle.volumes.proofs.rule.read_atoms.Given as goal

-- the body is whole before the first head atom
abbrev pub invariant-loop-item : goal.invariant-loop-item
invariant-loop-item l = Passed l.initial.atoms l.into l.atoms × ((l.atoms.bodies ≡ 0) ⊎ (l.into.heads ≡ 0))

abbrev pub decreases-loop-item : goal.decreases-loop-item
decreases-loop-item l = l.atoms.bodies + l.atoms.heads
