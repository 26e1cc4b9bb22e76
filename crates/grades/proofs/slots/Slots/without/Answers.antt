use Rattle.std.proofs.Common.{rules}
use Rattle.grades.proofs.Sets.{has_without}
use Rattle.grades.proofs.slots.Slots.without.Goals as goal

pub returns : goal.returns
returns c i = has_without c.args.self.bits c.args.other.bits i (search rules)
