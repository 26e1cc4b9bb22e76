use Rattle.std.proofs.Common.{subst}
use Rattle.rules.specs.Logic.{In}
use Rattle.reliances.proofs.SearchSteps.{none_left}
use Rattle.reliances.proofs.restraint_search.is_stuck.Goals as goal

pub returns-in-Some : goal.returns-in-Some
returns-in-Some c e =
    let early = c.in-Some.early in
    let found = c.in-Some.ensures in (
      early.spared,
      found.0,
      found.1,
      λ r loose i. subst (In r) (none_left early.nulls.items c.is_empty.result c.is_empty.ensures e) (found.2.complete r loose i),
    )
