use Rattle.std.proofs.Common.{ℕ, ◌<◌}
use Rattle.rules.specs.Logic.{formula_of}
use Rattle.volumes.specs.Answers.{Nth}
use Rattle.sources.proofs.applying.is_fact_of.Given as goal

abbrev pub invariant-loop-index : goal.invariant-loop-index
invariant-loop-index g l = (k : ℕ) → k < l.index → Nth (g.S.FactSource.facts l.source) k (formula_of l.atom) → ⊥
