use Rattle.std.proofs.Common.{◌≡◌, ℕ, ◌⊎◌, get_or}
use Rattle.grades.specs.Pairs.{HasSlot}
use Rattle.grades.proofs.numbering.give.Given as goal

abbrev pub invariant-loop-slot : goal.invariant-loop-slot
invariant-loop-slot l = record {
  within : (i : ℕ) → HasSlot l.rest i → HasSlot l.fn.set i;
  given : (i : ℕ) → HasSlot l.fn.set i → HasSlot l.rest i ⊎ (get_or l.numbers i 0 ≡ l.number);
  others : (i : ℕ) → (HasSlot l.fn.set i → ⊥) → get_or l.numbers i 0 ≡ get_or l.fn.numbers i 0;
}

abbrev pub decreases-loop-slot : goal.decreases-loop-slot
decreases-loop-slot l = l.rest.bits
