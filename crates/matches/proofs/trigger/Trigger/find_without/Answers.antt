use Rattle.std.proofs.Common.{ap, ◌∙◌}
use Rattle.rules.specs.Rules.{meaning, order_of}
use Rattle.matches.specs.Lists.{look, formulas}
use Rattle.matches.specs.Matching.{solve, sparing, bound}
use Rattle.matches.proofs.Literal.{searched}
use Rattle.matches.proofs.trigger.Trigger.find_without.Goals as goal

pub returns : goal.returns
returns c =
    let r = c.args.self.rule.now in
    let h = look c.args.self.values.now in
    let F = formulas c.args.self.facts.now in
    c.map_into.ensures
    ∙ searched r h (sparing c.value.result F) _ _ c.search_order.ensures.same c.bound.ensures
    ∙ ap (λ t. solve (sparing t F) (formulas (order_of r)) (bound (meaning r) h)) c.value.ensures
