use Rattle.std.proofs.Common.{subst}
use Rattle.rules.specs.Bounds.{FlagsAre}
use Rattle.rules.specs.Rules.{meaning}
use Rattle.reliances.specs.Searching.{rigid_for}
use Rattle.reliances.proofs.search.Question.new.Goals as goal

pub invariant_of-result : goal.invariant_of-result
invariant_of-result g c = record {
  all = c.requires;
  flags = subst (λ k. FlagsAre c.rigid_slots.result (rigid_for k (meaning c.args.first.now) (meaning c.args.second.now))) c.KIND.ensures c.rigid_slots.ensures;
}
