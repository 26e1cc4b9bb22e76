use Rattle.std.proofs.Common.{Ok, subst}
use Rattle.shelf.specs.Calls.{VerifySays}
use Rattle.shelf.proofs.shelf.Shelf.verify.Goals as goal

pub returns : goal.returns
returns c =
    subst (λ r. VerifySays c.args.kind c.args.sheet.now r (Ok c.verify.result)) c.in_ok-first.ensures
    (record { shown = c.verify.ensures.shown; holds = c.verify.ensures.holds })
