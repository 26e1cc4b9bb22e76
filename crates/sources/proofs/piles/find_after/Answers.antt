use Rattle.std.proofs.Common.{ap, subst, ◌∙◌}
use Rattle.rules.specs.Rules.{meaning}
use Rattle.sources.specs.Additions.{laid_over, own_facts}
use Rattle.sources.specs.Finding.{Found}
use Rattle.sources.proofs.Calls.{own_laid}
use Rattle.sources.proofs.piles.find_after.Goals as goal

pub returns-clause-means : goal.returns-clause-means
returns-clause-means g c =
    let F = g.S.FactSource.facts c.args.below in
    let own = own_facts c.applied-addition.result.own in
    ap (λ b. laid_over (g.S.FactSource.facts b) own) c.applied-addition.ensures.below
    ∙ own_laid F c.args.calls.now own (g.S.FactSource.few c.args.below).few c.applied-addition.ensures.own

pub returns-clause-answer : goal.returns-clause-answer
returns-clause-answer g c =
    subst (λ F. Found (meaning c.args.rule.now) F c.args.stack.now c.args.found.now c.find-answer.result c.find-answer.new.stack c.find-answer.new.found) (returns-clause-means g c) c.find-answer.ensures.answer
