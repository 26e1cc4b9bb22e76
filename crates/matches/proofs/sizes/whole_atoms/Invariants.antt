use Rattle.std.proofs.Common.{ℕ, ◌<◌, get_or}
use Rattle.matches.specs.Lists.{Whole}
use Rattle.matches.proofs.Steps.{no_atom}
use Rattle.matches.proofs.sizes.whole_atoms.Given as goal

abbrev pub invariant-loop-a : goal.invariant-loop-a
invariant-loop-a l = (k : ℕ) → k < l.a-index → Whole (get_or l.atoms k no_atom)
