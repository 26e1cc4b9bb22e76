use Rattle.std.proofs.Common.{◌∙◌}
use Rattle.std.proofs.lemmas.Bool.Decides.{Decides-at}
use Rattle.rules.specs.Bounds.{existential?}
use Rattle.rules.specs.Rules.{meaning}
use Rattle.rules.proofs.Membership.{existential_decided}
use Rattle.rules.proofs.rule.Rule.is_existential.Goals as goal

pub returns-clause-decides : goal.returns-clause-decides
returns-clause-decides c =
    let r = c.args.self.now in
    Decides-at c.is_flagged.result (existential? (meaning r) c.args.v) (c.is_flagged.ensures ∙ r.only_in_head c.args.v) (existential_decided (meaning c.args.self.now) c.args.v)
