use Rattle.std.proofs.Common.{ℕ, ◌<◌, ◌↔◌, IsSome}
use Rattle.grades.specs.Pairs.{HasSlot}
use Rattle.shelf.specs.Slots.{slot}
use Rattle.shelf.proofs.grading.held_slots.Given as goal

abbrev pub invariant-loop-i : goal.invariant-loop-i
invariant-loop-i l = (i : ℕ) → HasSlot l.held i ↔ ((i < l.i) × IsSome (slot l.slots i))
