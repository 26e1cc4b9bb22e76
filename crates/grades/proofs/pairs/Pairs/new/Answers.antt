use Rattle.grades.proofs.Sets.{no_bit}
use Rattle.grades.proofs.pairs.Pairs.new.Goals as goal

pub returns : goal.returns
returns c i j h = no_bit i j h.2
