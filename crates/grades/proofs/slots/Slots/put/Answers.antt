use Rattle.grades.proofs.Sets.{has_put}
use Rattle.grades.proofs.slots.Slots.put.Goals as goal

pub returns-then-slot-lt64 : goal.returns-then-slot-lt64
returns-then-slot-lt64 c i = has_put c.args.self.now.bits c.args.slot i c.if-slot-lt64.true
