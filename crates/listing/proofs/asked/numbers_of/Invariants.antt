use Rattle.std.proofs.Common.{◌≡◌, take}
use Rattle.volumes.specs.Volumes.{rules_of}
use Rattle.listing.specs.Calls.{numbers}
use Rattle.listing.proofs.asked.numbers_of.Given as goal

abbrev pub invariant-loop-index : goal.invariant-loop-index
invariant-loop-index l = l.numbers.items ≡ numbers (take l.index (rules_of l.volume.bytes.now))
