use Rattle.std.proofs.Common.{arith}
use Rattle.matches.specs.Lists.{Whole}
use Rattle.matches.proofs.Basics.{each_index}
use Rattle.matches.proofs.Steps.{no_atom}
use Rattle.matches.proofs.sizes.whole_atoms.Goals as goal

pub returns : goal.returns
returns c = each_index Whole no_atom c.args.atoms.now (λ k l. c.loop-a.invariant k (omega arith))
