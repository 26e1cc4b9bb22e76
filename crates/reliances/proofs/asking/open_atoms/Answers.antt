use Rattle.std.proofs.Common.{◌≤◌, List, length, get_or, sym, ap, ◌∙◌, subst, arith}
use Rattle.rules.specs.declared.Atom.{Atom}
use Rattle.rules.specs.Logic.{In, Each}
use Rattle.rules.specs.Rules.{meaning}
use Rattle.matches.specs.Lists.{formulas}
use Rattle.reliances.specs.Following.{Small}
use Rattle.reliances.specs.RestraintSearch.{opens?}
use Rattle.reliances.proofs.Nodes.{no_atom, small_head, get_d_in}
use Rattle.reliances.proofs.Slots.{each_more}
use Rattle.reliances.proofs.SearchSteps.{few_heads}
use Rattle.reliances.proofs.Gone.{kept_more, kept_same, kept_few}
use Rattle.reliances.proofs.asking.open_atoms.Goals.{then-is_open, else-is_open}
use Rattle.reliances.proofs.asking.open_atoms.Goals as goal

pub push-requires : goal.push-requires
push-requires c =
    let r = c.args.rule.now in
    let heads = c.head-a-items.result.now in
    let few = kept_few (opens? (meaning r)) heads c.loop-a.open.items c.loop-a.a-index c.loop-a-test.true c.loop-a.invariant.0 in
    let four = subst (λ (z : List Atom). length z ≤ 4) (sym c.head-a-items.ensures.same) (few_heads r) in
    (omega arith, omega (arith, few, four))

pub loop-a-preserved : goal.loop-a-preserved
loop-a-preserved c =
    let r = c.args.rule.now in
    let heads = c.head-a-items.result.now in
    let i = c.loop-a.a-index in
    let p = opens? (meaning r) in
    let kept = c.loop-a.open.items in
    elim c.if-is_open.branch [
      | then-is_open w ↦
          let more = ap (λ z. z.items) w.open-is ∙ w.push.ensures.items in (
            kept_more p heads kept i c.loop-a-test.true c.loop-a.invariant.0 c.if-is_open.open.items more (sym c.is_open.ensures ∙ w.if-is_open.true),
            subst (Each Small) (sym more)
                (each_more Small kept (get_or heads i no_atom) c.loop-a.invariant.1
                (small_head r (get_or heads i no_atom) (subst (In (get_or heads i no_atom)) c.head-a-items.ensures.same (get_d_in heads i no_atom c.loop-a-test.true)))),
          )
      | else-is_open w ↦ (
        ap (λ z. formulas z.items) w.open-is ∙ kept_same p heads kept i c.loop-a-test.true c.loop-a.invariant.0 (sym c.is_open.ensures ∙ w.if-is_open.false),
        subst (λ z. Each Small z.items) (sym w.open-is) c.loop-a.invariant.1,
      )
    ]
