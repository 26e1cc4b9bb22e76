use Rattle.grades.proofs.Sets.{has_within}
use Rattle.grades.proofs.slots.Slots.within.Goals as goal

pub returns : goal.returns
returns c = has_within c.args.self.bits c.args.other.bits
