use Rattle.std.proofs.Common.{◌≡◌, ℕ, ◌<◌, false}
use Rattle.shelf.specs.Slots.{slot, slot_has?}
use Rattle.shelf.proofs.shelf.find_rule.Given as goal

abbrev pub invariant-loop-slot : goal.invariant-loop-slot
invariant-loop-slot l = (i : ℕ) → i < l.slot-index → slot_has? l.number (slot l.slots i) ≡ false
