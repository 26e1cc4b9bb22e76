use Rattle.std.proofs.Common.{◌≡◌, ◌++◌, map, take, drop}
use Rattle.reliances.specs.Unification.{replaced}
use Rattle.reliances.proofs.unifier.replace.Given as goal

abbrev pub invariant-loop-x : goal.invariant-loop-x
invariant-loop-x l = l.sigma ≡ map (replaced l.s l.t) (take l.x-index l.initial.sigma) ++ drop l.x-index l.initial.sigma
