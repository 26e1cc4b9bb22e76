use Rattle.std.proofs.Common.{rules}
use Rattle.grades.proofs.Sets.{emptiness}
use Rattle.grades.proofs.slots.Slots.is_empty.Goals as goal

pub returns : goal.returns
returns c = emptiness c.args.self.bits (search rules)
