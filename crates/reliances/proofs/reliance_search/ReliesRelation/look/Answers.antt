use Rattle.std.proofs.Common.{◌++◌, [], length, sym, refl, ap, ◌∙◌, subst, arith}
use Rattle.std.proofs.lemmas.Bool.Decides.{not_from_Decides}
use Rattle.std.proofs.lemmas.List.{length-take, append-nil}
use Rattle.rules.specs.Bounds.{flags}
use Rattle.rules.specs.Matches.{Satisfied, result}
use Rattle.rules.specs.Rules.{meaning}
use Rattle.matches.specs.Lists.{look, formulas}
use Rattle.reliances.specs.Unification.{part, candidate}
use Rattle.reliances.specs.PositiveSearch.{Free, IsFound, laid_facts}
use Rattle.reliances.proofs.Laying.{along}
use Rattle.reliances.proofs.RelianceNodes.{listed, resulted, facts_are, kept_are}
use Rattle.reliances.proofs.RelianceEnd.{none_free, none_unsatisfied, found_shows}
use Rattle.reliances.specs.declared.sheet.Kind.TheVariants.{Positive}
use Rattle.reliances.specs.Searching.{OnWay}
use Rattle.reliances.proofs.SearchSteps.{none_left, few_body, few_gone, all_old}
use Rattle.reliances.proofs.reliance_search.ReliesRelation.look.Goals.{then-is_empty-via-then-is_empty, then-is_empty-via-else-is_empty+then-not-is_free}
use Rattle.reliances.proofs.reliance_search.ReliesRelation.look.Goals as goal

pub returns-then-is_satisfied : goal.returns-then-is_satisfied
returns-then-is_satisfied c =
    let q = c.args.asked.now in
    let way = c.args.way.now in
    let σ = way.sigma.now in
    let list = c.deref.result.now in
    let G = resulted q.first.now q.second.now σ c.args.all.now list (c.deref.ensures.0 ∙ c.laid-list.ensures)
    ∙ ap (λ z. result (meaning q.first.now) (look (part σ 0)) (candidate (meaning q.first.now) σ (formulas z))) c.requires.all in (
      none_unsatisfied q.first.now q.second.now q.rigid q.flags σ way.old.now way.rest.now c.requires.node
          (along (Satisfied (meaning q.second.now)) c.second_slots.result.now (part σ 12) (formulas list) _ c.second_slots.ensures G (c.is_satisfied.ensures.0 c.if-is_satisfied.true)),
      refl,
    )

pub found_sheet-requires : goal.found_sheet-requires
found_sheet-requires c =
    let body = few_body c.args.asked.now.first.now in
    let same = ap length c.body.ensures.same in
    let all = few_gone Positive c.args.asked.now.second.now in
    simp length-take (omega (arith, c.requires.new, c.args.asked.now.all, body, same, all))

pub returns-then-is_free : goal.returns-then-is_free
returns-then-is_free c =
    let q = c.args.asked.now in
    let way = c.args.way.now in
    let σ = way.sigma.now in
    let A = q.first.now in
    let B = q.second.now in
    let all = c.args.all.now in
    let facts = facts_are A B σ way.old.now c.body.result.now all way.rest.now c.deref-2.result.now c.body.ensures.same c.requires.all _ (c.deref-2.ensures.0 ∙ c.laid-list.ensures) in
    let list = c.deref.result.now in
    let G = resulted A B σ all list (c.deref.ensures.0 ∙ c.laid-list.ensures) in
    let node = subst (λ z. OnWay Positive A B q.rigid σ z []) (sym c.requires.all) (all_old Positive A B q.rigid q.flags σ way.old.now way.rest.now c.requires.node) in
    found_shows A B q.rigid q.flags σ c.sized.ensures c.sized-then-is_free.ensures all c.found_sheet.result node
    (record {
      free = subst (Free (meaning A) (meaning B) (flags q.rigid) σ) (listed A B σ all _ facts) (c.is_free.ensures.0 c.if-is_free.true);
      second = λ s. not_from_Decides c.is_satisfied.result c.is_satisfied.ensures c.if-is_satisfied.false
          (along (Satisfied (meaning B)) (part σ 12) c.second_slots.result.now _ (formulas list) (sym c.second_slots.ensures) (sym G) s);
    })
    (subst (λ z. IsFound σ z c.found_sheet.result) facts c.found_sheet.ensures)

pub returns-then-is_empty : goal.returns-then-is_empty
returns-then-is_empty c =
    let q = c.args.asked.now in
    let way = c.args.way.now in
    let σ = way.sigma.now in
    let A = q.first.now in
    let body = c.body.result.now in
    let all = c.args.all.now in
    let facts = facts_are A q.second.now σ way.old.now body all way.rest.now c.deref-2.result.now c.body.ensures.same c.requires.all _ (c.deref-2.ensures.0 ∙ c.laid-list.ensures) in
    elim c.then-is_empty.branch [
      | then-is_empty-via-then-is_empty w ↦
          let same = c.requires.all ∙ ap (λ z. way.old.now ++ z) (none_left way.rest.now c.is_empty.result c.is_empty.ensures w.if-is_empty.true) ∙ append-nil way.old.now in (
            none_free A q.second.now q.rigid q.flags σ way.old.now way.rest.now c.requires.node
                (subst (λ F. Free (meaning A) (meaning q.second.now) (flags q.rigid) σ F → ⊥)
                (listed A q.second.now σ way.old.now _ (facts ∙ ap (laid_facts A σ) same))
                (not_from_Decides c.is_free.result c.is_free.ensures c.if-is_free.false)),
            refl,
          )
      | then-is_empty-via-else-is_empty+then-not-is_free w ↦ (
        none_free A q.second.now q.rigid q.flags σ way.old.now way.rest.now c.requires.node
            (subst (λ F. Free (meaning A) (meaning q.second.now) (flags q.rigid) σ F → ⊥)
            (listed A q.second.now σ way.old.now _ (kept_are A q.second.now σ way.old.now c.body-2.result.now all way.rest.now _ c.body-2.ensures.same c.requires.all facts))
            (not_from_Decides w.is_free-else-is_empty.result w.is_free-else-is_empty.ensures w.if-not-is_free.true)),
        refl,
      )
    ]
