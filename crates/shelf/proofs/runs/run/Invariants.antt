use Rattle.shelf.specs.Held.{rules_on}
use Rattle.shelf.proofs.Lawful.{Going}
use Rattle.shelf.proofs.runs.run.Given as goal

abbrev pub invariant-loop-i : goal.invariant-loop-i
invariant-loop-i l = Going l.calls l.made l.initial.answers (rules_on l.shelf) l.answers l.i
