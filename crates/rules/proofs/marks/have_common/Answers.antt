use Rattle.rules.proofs.Marking.{near_is}
use Rattle.rules.proofs.marks.have_common.Goals as goal

pub returns : goal.returns
returns c = λ F G one other. near_is F G c.args.one c.args.other c.ranges.one.fits one other
