use Rattle.std.proofs.Common.{◌≡◌, ◌++◌, ◌-◌, length}
use Rattle.shelf.specs.declared.calls.Call.TheVariants.{Admit}
use Rattle.listing.specs.Calls.{admitting}
use Rattle.listing.proofs.asked.calls_for.Given as goal

abbrev pub invariant-loop-index : goal.invariant-loop-index
invariant-loop-index l = l.calls.items ++ admitting (Admit l.volume) l.index (length l.numbers - l.index) ≡ admitting (Admit l.volume) 0 (length l.numbers)
