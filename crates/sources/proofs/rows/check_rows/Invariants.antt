use Rattle.std.proofs.Common.{ℕ, ◌<◌, get_or}
use Rattle.matches.specs.Lists.{FactAtom}
use Rattle.matches.proofs.Steps.{no_atom}
use Rattle.sources.proofs.rows.check_rows.Given as goal

abbrev pub invariant-loop-row : goal.invariant-loop-row
invariant-loop-row l = (k : ℕ) → k < l.row → FactAtom (get_or l.rows k no_atom)
