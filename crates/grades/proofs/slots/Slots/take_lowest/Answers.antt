use Rattle.std.proofs.Common.{rules, arith}
use Rattle.grades.proofs.Sets.{taken_out, has_lowest}
use Rattle.grades.proofs.slots.Slots.take_lowest.Goals as goal

pub returns : goal.returns
returns c = taken_out c.args.self.now.bits _ (has_lowest c.args.self.now.bits (omega arith) (search rules))
