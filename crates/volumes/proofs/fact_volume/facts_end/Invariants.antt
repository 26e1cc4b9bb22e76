use Rattle.std.proofs.Common.{◌≡◌, ◌+◌, ◌*◌, List, length}
use Rattle.rules.specs.Logic.{Formula}
use Rattle.volumes.specs.Layout.{span}
use Rattle.volumes.specs.Reading.{read_fact_entry}
use Rattle.volumes.proofs.Loops.{Reads}
use Rattle.volumes.proofs.fact_volume.facts_end.Given as goal

abbrev pub invariant-loop-index : goal.invariant-loop-index
invariant-loop-index l = record {
  bytes : l.cursor.bytes.now ≡ l.bytes;
  end : l.cursor.end ≡ length l.bytes;
  read : (xs : List Formula) × (length xs ≡ l.index) × Reads (read_fact_entry l.bytes) (λ _ p a. p + span a) (3 + 2 * l.count) xs l.cursor.place;
}
