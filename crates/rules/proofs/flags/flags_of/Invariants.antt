use Rattle.std.proofs.Common.{take}
use Rattle.rules.specs.Logic.{formula_of}
use Rattle.rules.specs.Bounds.{some, has?}
use Rattle.rules.specs.Flags.{Sets}
use Rattle.rules.proofs.flags.flags_of.Given as goal

abbrev pub invariant-loop-a : goal.invariant-loop-a
invariant-loop-a l = Sets (λ v. some (λ a. has? v (formula_of a)) (take l.a-index l.atoms)) l.initial.set l.set
