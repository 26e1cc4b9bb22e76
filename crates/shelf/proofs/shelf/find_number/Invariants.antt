use Rattle.std.proofs.Common.{◌≡◌, ℕ, ◌<◌, false}
use Rattle.shelf.specs.Slots.{slot, slot_has?}
use Rattle.shelf.proofs.shelf.find_number.Given as goal

abbrev pub invariant-loop-index : goal.invariant-loop-index
invariant-loop-index l = (i : ℕ) → i < l.index → slot_has? l.number (slot l.slots i) ≡ false
