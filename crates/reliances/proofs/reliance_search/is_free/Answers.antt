use Rattle.std.proofs.Common.{false, refl, subst}
use Rattle.std.proofs.lemmas.Bool.Decides.{not_from_Decides}
use Rattle.rules.specs.Matches.{Satisfied}
use Rattle.rules.specs.Rules.{meaning}
use Rattle.rules.proofs.Membership.{decides_false}
use Rattle.matches.specs.Lists.{look, formulas}
use Rattle.reliances.proofs.RelianceNodes.{free_decided}
use Rattle.reliances.proofs.reliance_search.is_free.Goals.{then-has_rigid-via-then-has_rigid, then-has_rigid-via-else-has_rigid+then-is_satisfied}
use Rattle.reliances.proofs.reliance_search.is_free.Goals as goal

pub returns-then-has_rigid : goal.returns-then-has_rigid
returns-then-has_rigid c =
    let A = meaning c.args.asked.now.first.now in
    let F = formulas c.args.facts.now in
    decides_false (elim c.then-has_rigid.branch [
      | then-has_rigid-via-then-has_rigid w ↦ λ o. let z = w.if-has_rigid.ensures.0 refl in o.spare z.0 z.1 z.2
      | then-has_rigid-via-else-has_rigid+then-is_satisfied w ↦ λ o. o.first (subst (λ l. Satisfied A (look l) F) c.first_slots.ensures (w.if-is_satisfied.ensures.0 refl))
    ])

pub returns : goal.returns
returns c =
    let q = c.args.asked.now in
    free_decided q.first.now q.second.now q.rigid c.args.sigma.now c.first_slots.result.now c.second_slots.result.now c.first_slots.ensures c.second_slots.ensures
    (formulas c.args.facts.now) false false c.is_match.result
    (decides_false (not_from_Decides c.has_rigid.result c.has_rigid.ensures c.if-has_rigid.false))
    (decides_false (not_from_Decides c.is_satisfied.result c.is_satisfied.ensures c.if-is_satisfied.false)) c.is_match.ensures
