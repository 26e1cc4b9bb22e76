use Rattle.std.proofs.Common.{◌≤◌, take}
use Rattle.rules.specs.Logic.{terms_of}
use Rattle.sources.specs.Numbering.{LeastAbove}
use Rattle.sources.proofs.nulls.first_new.Given as goal

abbrev pub invariant-loop-index : goal.invariant-loop-index
invariant-loop-index g l = record { least : LeastAbove (terms_of (take l.index (g.S.FactSource.facts l.source))) 0 l.next; small : l.next ≤ 65536 }
