use Rattle.std.proofs.Common.{◌≡◌, ◌++◌, take}
use Rattle.std.specs.List.{flat_map}
use Rattle.listing.specs.Calls.{row_calls}
use Rattle.listing.proofs.asked.push_all.Given as goal

abbrev pub invariant-loop-first : goal.invariant-loop-first
invariant-loop-first l = l.calls.items ≡ l.initial.calls.items ++ flat_map (row_calls l.numbers) (take l.first-index l.numbers)
