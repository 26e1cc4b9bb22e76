use Rattle.std.proofs.Common.{ℕ, ◌⊎◌}
use Rattle.grades.specs.Pairs.{HasSlot, Related}
use Rattle.grades.proofs.pairs.Pairs.after.Given as goal

abbrev pub invariant-loop-slot : goal.invariant-loop-slot
invariant-loop-slot l = record {
  within : (i : ℕ) → HasSlot l.rest i → HasSlot l.fn.set i;
  sound : (j : ℕ) → HasSlot l.found j → (i : ℕ) × HasSlot l.fn.set i × Related l.self i j;
  whole : (i j : ℕ) → HasSlot l.fn.set i → Related l.self i j → HasSlot l.rest i ⊎ HasSlot l.found j;
}

abbrev pub decreases-loop-slot : goal.decreases-loop-slot
decreases-loop-slot l = l.rest.bits
