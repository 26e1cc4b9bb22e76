use Rattle.std.proofs.Common.{◌≡◌, ◌++◌, take}
use Rattle.std.specs.List.{flat_map}
use Rattle.listing.specs.Calls.{pair_calls}
use Rattle.listing.proofs.asked.push_row.Given as goal

abbrev pub invariant-loop-second : goal.invariant-loop-second
invariant-loop-second l = l.calls.items ≡ l.initial.calls.items ++ flat_map (pair_calls l.first) (take l.second-index l.numbers)
