use Rattle.std.proofs.Common.{length, take, refl, ◌∙◌}
use Rattle.std.proofs.lemmas.Bool.Decides.{not_from_Decides}
use Rattle.rules.proofs.Membership.{decides_false}
use Rattle.matches.specs.Lists.{formulas}
use Rattle.reliances.specs.Unification.{part}
use Rattle.reliances.proofs.Laying.{laid_one}
use Rattle.reliances.proofs.RestraintNodes.{before_is, later_is, other_is, O, rigid_shut, second_shut, firsts_shut, first_shut, open_decided}
use Rattle.reliances.proofs.restraint_search.is_open.Goals.{then-has_rigid-via-then-has_rigid, then-has_rigid-via-else-has_rigid+then-is_satisfied, then-has_rigid-via-else-has_rigid+else-is_satisfied+then-has_rigid-2, then-has_rigid-via-else-has_rigid+else-is_satisfied+else-has_rigid-2+then-is_satisfied-2}
use Rattle.reliances.proofs.restraint_search.is_open.Goals as goal

pub returns-then-has_rigid : goal.returns-then-has_rigid
returns-then-has_rigid c =
    let q = c.args.asked.now in
    let A = q.first.now in
    let B = q.second.now in
    let σ = c.args.way.now.sigma.now in
    let old = c.args.way.now.old.now in
    let list = c.args.list.now in
    let body = c.body.result.now in
    let before = before_is A B σ old list body c.requires c.body.ensures.same in
    let later = later_is A B σ old list body c.requires c.body.ensures.same in
    let F = formulas (take (length body) list) in
    let k = c.second_slots in
    let o = O A B σ old q.rigid q.flags in
    decides_false (elim c.then-has_rigid.branch [
      | then-has_rigid-via-then-has_rigid w ↦
          rigid_shut A B σ old q.rigid q.flags (part σ 0) (part σ 12) F (formulas list) o refl refl before later refl (w.if-has_rigid.ensures.0 refl)
      | then-has_rigid-via-else-has_rigid+then-is_satisfied w ↦
          second_shut A B σ old q.rigid q.flags (part σ 0) k.result.now F (formulas list) o refl k.ensures before later refl (w.if-is_satisfied.ensures.0 refl)
      | then-has_rigid-via-else-has_rigid+else-is_satisfied+then-has_rigid-2 w ↦
          firsts_shut A B σ old q.rigid q.flags (part σ 0) (part σ 12) F (formulas list) o refl refl before later refl (w.if-has_rigid-2.ensures.0 refl)
      | then-has_rigid-via-else-has_rigid+else-is_satisfied+else-has_rigid-2+then-is_satisfied-2 w ↦
          first_shut A B σ old q.rigid q.flags c.first_slots.result.now (part σ 12) F (formulas list) o c.first_slots.ensures refl before later refl (w.if-is_satisfied-2.ensures.0 refl)
    ])

pub returns : goal.returns
returns c =
    let q = c.args.asked.now in
    let A = q.first.now in
    let B = q.second.now in
    let σ = c.args.way.now.sigma.now in
    let old = c.args.way.now.old.now in
    let list = c.args.list.now in
    let body = c.body.result.now in
    let before = before_is A B σ old list body c.requires c.body.ensures.same in
    let later = later_is A B σ old list body c.requires c.body.ensures.same in
    let head = c.head.result.now in
    let others = c.deref.result.now in
    let h = c.first_slots in
    let k = c.second_slots in
    open_decided A B σ old q.rigid q.flags h.result.now k.result.now (formulas (take (length body) list)) (formulas list) (formulas others) h.ensures k.ensures before later
    (other_is A B σ old q.rigid q.flags head others c.wide_slots.result.now c.head.ensures.same c.wide_slots.ensures
    (c.deref.ensures.0 ∙ laid_one _ c.push_each.new.into.items _ head c.new-other.ensures c.push_each.ensures))
    (not_from_Decides c.has_rigid.result c.has_rigid.ensures c.if-has_rigid.false)
    (not_from_Decides c.is_satisfied.result c.is_satisfied.ensures c.if-is_satisfied.false)
    (not_from_Decides c.has_rigid-else-is_satisfied.result c.has_rigid-else-is_satisfied.ensures c.if-has_rigid-2.false)
    (not_from_Decides c.is_satisfied-else-has_rigid-2.result c.is_satisfied-else-has_rigid-2.ensures c.if-is_satisfied-2.false)
    c.some_spared.result c.some_spared.ensures
