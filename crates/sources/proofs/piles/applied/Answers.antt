use Rattle.std.proofs.Common.{subst, ◌∙◌, arith}
use Rattle.std.proofs.lemmas.List.{take_all}
use Rattle.rules.specs.Rules.{meaning}
use Rattle.matches.specs.Lists.{look}
use Rattle.sources.specs.Additions.{own_facts}
use Rattle.sources.specs.Applying.{ApplyAnswer}
use Rattle.sources.specs.Piles.{OwnAfter}
use Rattle.sources.proofs.Calls.{own_next}
use Rattle.sources.proofs.piles.applied.Goals as goal

pub loop-call-preserved : goal.loop-call-preserved
loop-call-preserved g c =
    let i = c.loop-call.invariant in
    record {
      below = c.apply.ensures.below ∙ i.below;
      own =
          own_next (g.S.FactSource.facts c.args.below) c.args.calls.now c.loop-call.call-index c.call-item.result (own_facts c.loop-call.addition.own) c.apply.result (own_facts c.apply.new.self.own) (omega arith) c.call-item.is i.own
          (subst (λ b. ApplyAnswer (meaning c.call-item.result.rule) (look c.call-item.result.found) (g.S.FactSource.facts b) (own_facts c.loop-call.addition.own) c.apply.result (own_facts c.apply.new.self.own)) i.below c.apply.ensures.answer);
    }

pub returns-clause-own : goal.returns-clause-own
returns-clause-own g c =
    subst (λ cs. OwnAfter (g.S.FactSource.facts c.args.below) cs (own_facts c.loop-call.addition.own)) (take_all c.loop-call.call-index c.args.calls.now (omega arith)) c.loop-call.invariant.own
