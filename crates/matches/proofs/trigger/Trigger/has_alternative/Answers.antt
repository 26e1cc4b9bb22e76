use Rattle.std.proofs.Common.{rules, refl}
use Rattle.std.proofs.lemmas.Bool.Decides.{Decides-at}
use Rattle.std.proofs.lemmas.Iterator.{YieldsList-from_range}
use Rattle.std.proofs.lemmas.Iterator.Consumers.{YieldsList-from_filter}
use Rattle.std.proofs.lemmas.Iterator.Search.{any_from_yields_List}
use borrow.Author.Tests.{tests}
use Rattle.rules.specs.Bounds.{existential?}
use Rattle.rules.specs.Rules.{meaning, order_of}
use Rattle.matches.specs.Lists.{look, formulas}
use Rattle.matches.proofs.Bounded.{bounded}
use Rattle.matches.proofs.Literal.{reordered}
use Rattle.matches.proofs.Alternatives.{decides_alternative}
use Rattle.matches.proofs.trigger.Trigger.has_alternative.Goals as goal

pub returns : goal.returns
returns c =
    Decides-at _ _
    (any_from_yields_List _ _ _ _ c.any.ensures.ran
    (YieldsList-from_filter _ (existential? (meaning c.args.self.rule.now)) (YieldsList-from_range 0 12 12 (cc) refl) c.filter.ensures.closure (λ x b q k. search (rules, tests)))
    (λ x b q k. search (rules, tests)))
    (decides_alternative (meaning c.args.self.rule.now) (bounded c.args.self.rule.now) (formulas (order_of c.args.self.rule.now)) (reordered c.args.self.rule.now) (look c.args.self.values.now) (formulas c.args.self.facts.now))
