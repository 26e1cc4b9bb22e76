use Rattle.std.proofs.Common.{◌≡◌, length, drop}
use Rattle.rules.specs.Bounds.{flags}
use Rattle.reliances.specs.Unification.{unify_all}
use Rattle.reliances.proofs.unifier.unify_terms.Given as goal

abbrev pub invariant-loop-s : goal.invariant-loop-s
invariant-loop-s l =
    unify_all (flags l.rigid) 0 12 l.a l.b l.initial.sigma ≡ unify_all (flags l.rigid) 0 12 (drop (length l.yielded) l.a) (drop (length l.yielded) l.b) l.sigma
