use Rattle.std.proofs.Common.{◌∙◌}
use Rattle.std.proofs.lemmas.Bool.Decides.{Decides-at}
use Rattle.rules.specs.Bounds.{universal?}
use Rattle.rules.specs.Rules.{meaning}
use Rattle.rules.proofs.Membership.{stands_decided}
use Rattle.rules.proofs.rule.Rule.is_universal.Goals as goal

pub returns-clause-decides : goal.returns-clause-decides
returns-clause-decides c =
    let r = c.args.self.now in
    Decides-at c.is_flagged.result (universal? (meaning r) c.args.v) (c.is_flagged.ensures ∙ r.in_body c.args.v) (stands_decided c.args.v (meaning c.args.self.now).body)
