use Rattle.std.proofs.Common.{take}
use Rattle.rules.specs.Bounds.{some, is_variable?}
use Rattle.rules.specs.Flags.{Sets}
use Rattle.rules.proofs.flags.set_all.Given as goal

abbrev pub invariant-loop-t : goal.invariant-loop-t
invariant-loop-t l = Sets (λ v. some (is_variable? v) (take l.t-index l.terms)) l.initial.set l.set
