use Rattle.std.proofs.Common.{Ok, subst}
use Rattle.shelf.specs.Calls.{AskSays}
use Rattle.shelf.proofs.shelf.Shelf.ask.Goals as goal

pub returns : goal.returns
returns c =
    subst (λ r. AskSays c.args.kind r (Ok c.ask.result) c.args.sheet.now c.ask.new.sheet) c.in_ok-first.ensures
    (record { holds = c.ask.ensures.holds; shown = c.ask.ensures.shown; kept = c.ask.ensures.kept })
