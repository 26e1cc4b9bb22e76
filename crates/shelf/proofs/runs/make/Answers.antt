use Rattle.std.proofs.Common.{sym, subst}
use Rattle.shelf.specs.Held.{rules_on}
use Rattle.shelf.specs.Runs.{Right}
use Rattle.shelf.proofs.runs.make.Goals as goal

pub returns-in-Grade-clause-right : goal.returns-in-Grade-clause-right
returns-in-Grade-clause-right c = subst (λ z. Right (rules_on c.args.shelf.now) z c.grade.result) (sym c.in-Grade.is) c.grade.ensures
