use Rattle.shelf.proofs.Slots.{blank_apart}
use Rattle.shelf.proofs.shelf.Shelf.new.Goals as goal

pub invariant_of-result : goal.invariant_of-result
invariant_of-result c = record { apart = blank_apart 64 }
