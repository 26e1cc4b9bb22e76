use Rattle.std.proofs.Common.{sym, subst}
use Rattle.rules.specs.Rules.{meaning, order_of}
use Rattle.matches.specs.Lists.{look, formulas, AlternativeSparing}
use Rattle.matches.proofs.Bounded.{bounded}
use Rattle.matches.proofs.Literal.{reordered}
use Rattle.matches.proofs.Alternatives.{spared_found, spared_none}
use Rattle.matches.proofs.trigger.Trigger.find_alternative.Goals as goal

pub returns-in_err-found : goal.returns-in_err-found
returns-in_err-found c =
    let r = c.args.self.rule.now in
    let h = look c.args.self.values.now in
    let S = formulas c.args.self.facts.now in
    subst (AlternativeSparing (meaning r) h S c.args.spared) (sym c.from_residual.ensures)
    (spared_none (meaning r) (bounded r) (formulas (order_of r)) (reordered r) h S c.args.spared (sym c.in_err-found.ensures))

pub returns : goal.returns
returns c =
    let r = c.args.self.rule.now in
    spared_found (meaning r) (bounded r) (formulas (order_of r)) (reordered r) (look c.args.self.values.now) (formulas c.args.self.facts.now) c.args.spared c.in_ok-found.found (sym c.in_ok-found.ensures)
    (c.is_existential.ensures.decides.0 c.if-not-is_existential.false) (look c.fill.result) c.fill.ensures
