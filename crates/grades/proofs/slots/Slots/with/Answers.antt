use Rattle.grades.proofs.Sets.{has_with}
use Rattle.grades.proofs.slots.Slots.with.Goals as goal

pub returns : goal.returns
returns c = has_with c.args.self.bits c.args.other.bits
