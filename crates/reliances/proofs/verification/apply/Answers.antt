use Rattle.reliances.proofs.Verified.{resulted}
use Rattle.matches.specs.Lists.{look}
use Rattle.reliances.proofs.verification.apply.Goals as goal

pub returns-clause-is : goal.returns-clause-is
returns-clause-is g c = resulted c.args.rule.now (look c.args.values.now) c.args.facts.now.items c.head.result.now c.push_each.new.into.items c.head.ensures.same c.push_each.ensures
