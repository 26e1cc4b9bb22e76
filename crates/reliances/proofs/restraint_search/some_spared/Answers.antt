use Rattle.std.proofs.Common.{refl, rules, tests}
use Rattle.std.proofs.lemmas.Iterator.{YieldsList-from_range, cases_from_any}
use Rattle.matches.specs.Lists.{formulas}
use Rattle.reliances.proofs.RestraintNodes.{Spared, Present, spared_decided}
use Rattle.reliances.proofs.restraint_search.some_spared.Goals as goal

pub returns : goal.returns
returns c =
    let rigid = c.args.rigid.now in
    let F = formulas c.args.list.now in
    spared_decided rigid F c.told-rigid c.any.result
    (cases_from_any _ _ c.any.result (Spared rigid F) (Present rigid F) c.any.ensures.ran (YieldsList-from_range 12 36 24 refl refl) (λ x q k. search (rules, tests)) (λ x q k. search (rules, tests)))
