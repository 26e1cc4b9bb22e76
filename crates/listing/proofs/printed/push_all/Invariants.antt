use Rattle.std.proofs.Common.{◌≡◌, take}
use Rattle.std.specs.List.{flat_map, zip}
use Rattle.listing.specs.Calls.{text_of}
use Rattle.listing.proofs.printed.push_all.Given as goal

abbrev pub invariant-loop-i : goal.invariant-loop-i
invariant-loop-i l = l.text.items ≡ flat_map (λ p. text_of l.numbers p.0 p.1) (take l.i (zip l.calls l.answers))
