-- What a source of facts means, and what it answers.
use Rattle.std.specs.Prelude.{◌≡◌, ℕ, ◌≤◌, List, length, Ok, Err, Result}
use Rattle.rules.specs.declared.Atom.{Atom}
use Rattle.rules.specs.Logic.{Formula, formula_of}
use Rattle.rules.specs.Matches.{Facts}
use Rattle.faults.specs.declared.source.SourceFault.{SourceFault}
use Rattle.faults.specs.declared.source.SourceFault.TheVariants.{NoFact}
use Rattle.volumes.specs.Answers.{Nth}

-- at most 4,096 facts
pub record FewFacts (F : List Formula) : Type 0 where
  pub few : length F ≤ 4096
  pub facts : Facts F

-- the fact of index i, or refusal 17 of that index where there are not so many
abbrev pub FactAt : List Formula → ℕ → Result Atom SourceFault → Type 0
FactAt F i (Ok a) = Nth F i (formula_of a)
FactAt F i (Err f) = (length F ≤ i) × (f ≡ NoFact i)
