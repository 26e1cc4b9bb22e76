use Rattle.shelf.specs.Held.{rules_on, both_under}
use Rattle.shelf.proofs.Lawful.{asked_yes}
use Rattle.shelf.proofs.runs.ask.Goals as goal

pub returns-in-Ok-true : goal.returns-in-Ok-true
returns-in-Ok-true c = asked_yes c.args.kind (both_under (rules_on c.args.shelf.now) c.args.first c.args.second) c.in-Ok-true.field-0 _ c.ask.new.sheet c.in-Ok-true.field-0-test c.in-Ok-true.ensures
