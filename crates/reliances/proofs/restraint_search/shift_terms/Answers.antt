use Rattle.std.proofs.Common.{rules, tests}
use Rattle.rules.specs.declared.Term.TheVariants.{Constant}
use Rattle.reliances.specs.RestraintSearch.{shift_by}
use Rattle.rules.proofs.Mapping.{mapped}
use Rattle.reliances.proofs.restraint_search.shift_terms.Goals as goal

pub returns : goal.returns
returns c =
    mapped _ _ (shift_by c.args.rigid.now) (λ x y q called. search (rules, tests)) c.args.terms.now c.map.result (Constant 0) 4 c.told-terms c.map.ensures.items
