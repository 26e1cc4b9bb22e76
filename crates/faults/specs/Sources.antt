-- The number, the rank, the index and the place of each refusal of a source of facts.
use Rattle.std.specs.Prelude.{ℕ, List}
use Rattle.faults.specs.declared.source.SourceFault.{SourceFault}
use Rattle.faults.specs.declared.source.SourceFault.TheVariants.{TooManyRows, WrongRow, NoFact, NoMatch, SatisfiedMatch, NullTooLarge, TooManyFacts}
use Rattle.faults.specs.Text.{refusal_text}

-- the refusal's number
abbrev pub source_number : SourceFault → ℕ
source_number (TooManyRows n) = 15
source_number (WrongRow i) = 16
source_number (NoFact i) = 17
source_number NoMatch = 18
source_number SatisfiedMatch = 19
source_number NullTooLarge = 20
source_number TooManyFacts = 21

-- the rank of the layer, which is the source
abbrev pub source_rank : SourceFault → ℕ
source_rank f = 7

-- no index in the contents of a volume is concerned
abbrev pub source_index : SourceFault → ℕ
source_index f = 0

-- how many rows there are, the index of the first wrong row, or the index that was asked for; an application has no place
abbrev pub source_place : SourceFault → ℕ
source_place (TooManyRows n) = n
source_place (WrongRow i) = i
source_place (NoFact i) = i
source_place NoMatch = 0
source_place SatisfiedMatch = 0
source_place NullTooLarge = 0
source_place TooManyFacts = 0

-- what such a refusal is printed as
abbrev pub source_text : SourceFault → List ℕ
source_text f = refusal_text (source_number f) (source_rank f) (source_index f) (source_place f)
