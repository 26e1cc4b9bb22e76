use Rattle.std.proofs.Common.{ap, sym, arith}
use Rattle.shelf.specs.Held.{done}
use Rattle.shelf.proofs.Slots.{held_none, none_left, held_some, sorted_taken, taken_apart}
use Rattle.shelf.proofs.shelf.Shelf.withdraw.Goals as goal

pub returns-in_default-clause-answer : goal.returns-in_default-clause-answer
returns-in_default-clause-answer c = ap done (sym (held_none c.args.number c.args.self.now.slots c.in_default.ensures.found))

pub returns-in_default-clause-then : goal.returns-in_default-clause-then
returns-in_default-clause-then c = none_left c.args.number c.args.self.now.slots c.in_default.ensures.found

pub invariant_of-self : goal.invariant_of-self
invariant_of-self c = record { apart = taken_apart c.args.self.now.slots c.in-Some.at (omega (arith, c.find_number.ensures.long, c.in-Some.ensures.found.0)) c.args.self.now.apart }

pub returns-clause-answer : goal.returns-clause-answer
returns-clause-answer c = held_some c.args.number c.args.self.now.slots c.in-Some.at (c.args.self.now.apart c.args.number) c.in-Some.ensures.found.1

pub returns-clause-then : goal.returns-clause-then
returns-clause-then c = sorted_taken c.args.number c.args.self.now.slots c.in-Some.at (c.args.self.now.apart c.args.number) c.in-Some.ensures.found.1
