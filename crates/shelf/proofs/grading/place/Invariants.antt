use Rattle.std.proofs.Common.{◌≡◌, ℕ, ◌<◌, false, get_or}
use Rattle.shelf.specs.Grading.{above?}
use Rattle.shelf.proofs.grading.place.Given as goal

abbrev pub invariant-loop-place : goal.invariant-loop-place
invariant-loop-place l = (k : ℕ) → k < l.place → above? l.slots l.number (get_or l.order k 0) ≡ false
