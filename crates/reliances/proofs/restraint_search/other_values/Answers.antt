use Rattle.std.proofs.Common.{rules, tests}
use Rattle.rules.specs.declared.Term.TheVariants.{Constant, Variable}
use Rattle.rules.specs.Matches.{value}
use Rattle.reliances.specs.Unification.{through}
use Rattle.reliances.specs.RestraintSearch.{shift_by}
use Rattle.rules.proofs.Mapping.{made}
use Rattle.reliances.proofs.restraint_search.other_values.Goals as goal

pub returns : goal.returns
returns c = λ v l.
    made _ _ (λ w. value (through c.args.sigma.now 12) (shift_by c.args.rigid.now (Variable w))) (λ k y q called. search (rules, tests)) c.from_fn.result 12 c.from_fn.ensures.items v l (Constant 0)
