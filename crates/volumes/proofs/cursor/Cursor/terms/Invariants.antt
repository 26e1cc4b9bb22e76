use Rattle.std.proofs.Common.{◌≡◌, ◌+◌, ◌*◌, length, take}
use Rattle.volumes.specs.Moves.{Past}
use Rattle.volumes.specs.Reading.{read_term}
use Rattle.volumes.proofs.Loops.{Reads}
use Rattle.volumes.proofs.cursor.Cursor.terms.Given as goal

abbrev pub invariant-loop-term : goal.invariant-loop-term
invariant-loop-term l = record {
  whole : length l.term-items ≡ l.arity;
  moved : Past l.initial.self (3 * l.term-index) l.self;
  reads : Reads (λ _ q. read_term l.kind l.initial.self.bytes.now l.initial.self.end q) (λ _ q _. q + 3) l.initial.self.place (take l.term-index l.term-items) l.self.place;
}
