use Rattle.std.proofs.Common.{ℕ, ◌<◌, get_or}
use Rattle.rules.specs.Logic.{In, formula_of}
use Rattle.rules.specs.Matches.{under}
use Rattle.matches.specs.Lists.{look}
use Rattle.matches.proofs.Steps.{no_atom}
use Rattle.sources.proofs.applying.are_facts_of.Given as goal

abbrev pub invariant-loop-atom : goal.invariant-loop-atom
invariant-loop-atom g l = (k : ℕ) → k < l.atom-index → In (under (look l.values) (formula_of (get_or l.atoms k no_atom))) (g.S.FactSource.facts l.source)
