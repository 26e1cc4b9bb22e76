use Rattle.std.proofs.Common.{ap, ◌∙◌}
use Rattle.std.proofs.lemmas.Bool.Decides.{Decides-at}
use Rattle.std.specs.Option.{is_some}
use Rattle.rules.specs.Rules.{meaning, order_of}
use Rattle.matches.specs.Lists.{look, formulas}
use Rattle.matches.proofs.Bounded.{bounded}
use Rattle.matches.proofs.Literal.{searched, reordered, decides_mapped}
use Rattle.matches.proofs.trigger.Trigger.is_satisfied.Goals as goal

pub returns : goal.returns
returns c =
    let r = c.args.self.rule.now in
    let h = look c.args.self.values.now in
    let F = formulas c.args.self.facts.now in
    Decides-at _ _ (c.is_some.ensures ∙ ap is_some (c.map_into.ensures ∙ searched r h F _ _ c.search_order.ensures.same c.bound.ensures)) (decides_mapped (meaning r) (bounded r) h (formulas (order_of r)) (reordered r) F)
