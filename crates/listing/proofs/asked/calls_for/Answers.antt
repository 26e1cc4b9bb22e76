use Rattle.std.proofs.Common.{length}
use Rattle.shelf.specs.declared.calls.Call.TheVariants.{Admit}
use Rattle.listing.specs.Calls.{admitting}
use Rattle.listing.proofs.Admissions.{admitted_more}
use Rattle.listing.proofs.asked.calls_for.Goals as goal

pub loop-index-preserved : goal.loop-index-preserved
loop-index-preserved c =
    admitted_more (Admit c.args.volume.now) c.loop-index.calls.items c.push.new.self.items (admitting (Admit c.args.volume.now) 0 (length c.args.numbers.now)) c.loop-index.index (length c.args.numbers.now)
    c.loop-index-test.true c.in_ok-push.ensures.items c.loop-index.invariant
