use Rattle.std.proofs.Common.{◌≡◌, ◌+◌, ◌*◌, length, take}
use Rattle.rules.specs.Logic.{Each}
use Rattle.reliances.proofs.SearchSteps.{NotJoined}
use Rattle.reliances.proofs.search.+searching.Given as goal

-- twice as many as remain, and one more before the next is chosen
abbrev pub decreases-search : goal.decreases-search
decreases-search g l = 2 * length l.way.now.rest.now + 1

abbrev pub decreases-branch : goal.decreases-branch
decreases-branch g l = 2 * length l.way.now.rest.now

abbrev pub invariant-branch-loop-head : goal.invariant-branch-loop-head
invariant-branch-loop-head g l =
    (l.sheet ≡ l.initial.sheet) × Each (NotJoined g.R.Relation.KIND l.asked.first.now l.asked.second.now l.asked.rigid l.way.sigma.now l.way.old.now l.next) (take l.head-index l.head-items)
