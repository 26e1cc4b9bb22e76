use Rattle.std.proofs.Common.{length, take, ap, subst, arith}
use Rattle.std.proofs.lemmas.List.{length-take}
use Rattle.rules.specs.Bounds.{flags}
use Rattle.rules.specs.Rules.{meaning}
use Rattle.matches.specs.Lists.{look, formulas}
use Rattle.reliances.specs.Unification.{part}
use Rattle.reliances.specs.RestraintSearch.{EarlyFound}
use Rattle.reliances.proofs.restraint_search.find_here.Goals as goal

pub slice_bounds-looseness-end : goal.slice_bounds-looseness-end
slice_bounds-looseness-end c =
    let fits = c.requires in
    let same = ap length c.body.ensures.same in
    simp length-take (omega (arith, fits, same))

pub returns : goal.returns
returns c =
    let q = c.args.asked.now in
    let S = c.args.facts.now in
    subst (λ n. EarlyFound (meaning q.second.now) (flags q.rigid) (formulas (take n S)) (look (part c.args.sigma.now 12)) (formulas S) c.find_early.result) (ap length c.body.ensures.same)
    (subst (λ h. EarlyFound (meaning q.second.now) (flags q.rigid) (formulas (take (length c.body.result.now) S)) (look h) (formulas S) c.find_early.result) c.second_slots.ensures c.find_early.ensures)
