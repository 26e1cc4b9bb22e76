use Rattle.timing.proofs.work.repeat.Given as goal

abbrev pub invariant-loop : goal.invariant-loop
invariant-loop g l = g.W.Work.Right l.work l.answer
