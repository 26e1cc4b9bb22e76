use Rattle.rules.proofs.Bounded.{makes_rule_decided}
use Rattle.rules.proofs.rule.Rule.parts.Goals as goal

pub returns-clause-kept : goal.returns-clause-kept
returns-clause-kept c = (makes_rule_decided c.args.self.now.parts).0 c.args.self.now.kept
