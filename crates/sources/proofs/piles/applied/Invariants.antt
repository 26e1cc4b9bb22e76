use Rattle.std.proofs.Common.{◌≡◌, take}
use Rattle.sources.specs.Additions.{own_facts}
use Rattle.sources.specs.Piles.{OwnAfter}
use Rattle.sources.proofs.piles.applied.Given as goal

abbrev pub invariant-loop-call : goal.invariant-loop-call
invariant-loop-call g l = record { below : l.addition.below ≡ l.fn.below; own : OwnAfter (g.S.FactSource.facts l.fn.below) (take l.call-index l.calls) (own_facts l.addition.own) }
