use Rattle.sources.proofs.tests.hold.Goals as goal

pub hold-requires-clause-facts : goal.hold-requires-clause-facts
hold-requires-clause-facts g c = c.are_facts.ensures.0 c.if-not-are_facts.false
