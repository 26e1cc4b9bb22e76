use Rattle.std.proofs.Common.{◌≡◌, ◌+◌, Ok, Some, refl, ap, ◌∙◌, subst, inl, inr, ⊎_elim, arith}
use Rattle.std.proofs.lemmas.Result.{err_from_is_err_and}
use Rattle.volumes.specs.Items.{Hands}
use Rattle.volumes.proofs.Passing.{passed_body, passed_head, passed_still, wrong_still}
use Rattle.volumes.proofs.rule.read_atoms.Goals as goal

pub returns-in_err-item : goal.returns-in_err-item
returns-in_err-item c =
    let p = err_from_is_err_and c.from_residual.result c.from_residual.ensures.1 in
    let h = c.in_err-item.ensures in
    let s = c.args.atoms.now in
    let u = c.loop-item.atoms in
    let t = c.next_item.new.self in
    let b = h.0.bodies in let d = h.0.heads in let m = h.1 in
    rw (p.1, p.2) (record {
      passed = passed_still s u t c.loop-item.into c.loop-item.invariant.0 h.0;
      ends = (omega arith, wrong_still s u t _ c.loop-item.invariant.0.rule h.0 h.2);
    })

pub loop-item-preserved-in-Body : goal.loop-item-preserved-in-Body
loop-item-preserved-in-Body c =
    let u = c.loop-item.atoms in
    let t = c.next_item.new.self in
    let h = subst (λ y. Hands u (Ok y) t) (c.in-Some.is ∙ ap Some c.in-Body.is) c.in_ok-item.ensures in
    let fewer : u.bodies ≡ t.bodies + 1 = h.1 in
    let none : c.loop-item.into.heads ≡ 0 = ⊎_elim (λ e. absurd (omega arith)) (λ e. e) c.loop-item.invariant.1 in (
      passed_body c.args.atoms.now u t c.loop-item.into _ c.in-Body.x c.loop-item.invariant.0 h.0 fewer h.2
          (record { body = c.put.ensures.atoms; bodies = c.put.ensures.count; head = refl; heads = refl }) none,
      inr none,
    )

pub loop-item-preserved : goal.loop-item-preserved
loop-item-preserved c =
    let u = c.loop-item.atoms in
    let t = c.next_item.new.self in
    let h = subst (λ y. Hands u (Ok y) t) (c.in-Some.is ∙ ap Some c.in-Head.is) c.in_ok-item.ensures in (
      passed_head c.args.atoms.now u t c.loop-item.into _ c.in-Head.x c.loop-item.invariant.0 h.0 h.1 h.2 h.3
          (record { body = refl; bodies = refl; head = c.put-in-Head.ensures.atoms; heads = c.put-in-Head.ensures.count }),
      inl h.2,
    )
