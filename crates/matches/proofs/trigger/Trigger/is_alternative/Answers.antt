use Rattle.std.proofs.lemmas.Bool.Decides.{Decides-at}
use Rattle.rules.specs.Rules.{meaning}
use Rattle.matches.specs.Lists.{look, formulas}
use Rattle.matches.proofs.Bounded.{bounded}
use Rattle.matches.proofs.Alternatives.{decides_chosen}
use Rattle.matches.proofs.trigger.Trigger.is_alternative.Goals as goal

pub returns : goal.returns
returns c =
    let r = c.args.self.rule.now in
    Decides-at _ _ c.is_chosen.ensures (decides_chosen (meaning r) (bounded r) (look c.args.self.values.now) (look c.args.k.now) (formulas c.args.self.facts.now))
