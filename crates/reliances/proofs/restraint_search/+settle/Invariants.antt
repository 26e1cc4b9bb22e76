use Rattle.std.proofs.Common.{◌≡◌, take}
use Rattle.rules.specs.Bounds.{flags}
use Rattle.rules.specs.Logic.{Each}
use Rattle.reliances.specs.Unification.{loose_count}
use Rattle.reliances.proofs.RestraintEnd.{Refuted}
use Rattle.reliances.proofs.restraint_search.+settle.Given as goal

abbrev pub decreases-settle : goal.decreases-settle
decreases-settle l = loose_count (flags l.asked.now.rigid) l.way.now.sigma.now

abbrev pub invariant-loop-null : goal.invariant-loop-null
invariant-loop-null l =
    (l.sheet ≡ l.initial.sheet) × Each (Refuted l.asked.first.now l.asked.second.now l.asked.rigid l.way.sigma.now l.way.old.now l.spared) (take l.null-index l.null-items)
