use Rattle.std.proofs.Common.{refl, ap, ◌∙◌, subst}
use Rattle.std.proofs.lemmas.Bool.Decides.{not_from_Decides}
use Rattle.rules.specs.Bounds.{body_of, flags}
use Rattle.rules.specs.Rules.{meaning}
use Rattle.matches.specs.Lists.{look, formulas}
use Rattle.reliances.specs.Unification.{part, before_of}
use Rattle.reliances.specs.RestraintSearch.{Stuck}
use Rattle.reliances.proofs.RestraintNodes.{before_is, laid_later_lem}
use Rattle.reliances.proofs.RestraintEnd.{none_open, none_stuck}
use Rattle.reliances.proofs.restraint_search.is_shut.Goals as goal

pub returns-then-not-is_open : goal.returns-then-not-is_open
returns-then-not-is_open c = λ e.
    let q = c.args.asked.now in
    let way = c.args.way.now in
    none_open q.first.now q.second.now q.rigid q.flags way.sigma.now way.old.now way.rest.now c.requires.node (not_from_Decides c.is_open.result c.is_open.ensures c.if-not-is_open.true)

pub returns-else-not-is_open : goal.returns-else-not-is_open
returns-else-not-is_open c = λ e.
    let q = c.args.asked.now in
    let A = q.first.now in
    let B = q.second.now in
    let way = c.args.way.now in
    let σ = way.sigma.now in
    let old = way.old.now in
    let list = c.args.list.now in
    none_stuck A B q.rigid q.flags σ old way.rest.now c.requires.node
    (subst (Stuck (meaning B) (flags q.rigid) (before_of (meaning B) σ) (look (part σ 12)))
    (ap formulas c.requires.list ∙ laid_later_lem A B σ old)
    (subst (λ C. Stuck (meaning B) (flags q.rigid) C (look (part σ 12)) (formulas list)) (before_is A B σ old list (body_of B.parts) c.requires.list refl)
    (c.is_stuck.ensures e)))
