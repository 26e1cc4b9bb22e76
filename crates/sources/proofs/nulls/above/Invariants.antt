use Rattle.std.proofs.Common.{◌≤◌, take}
use Rattle.sources.specs.Numbering.{LeastAbove}
use Rattle.sources.proofs.nulls.above.Given as goal

abbrev pub invariant-loop-term : goal.invariant-loop-term
invariant-loop-term l = record { least : LeastAbove (take l.term-index l.terms) l.fn.from l.next; small : l.next ≤ 65536 }
