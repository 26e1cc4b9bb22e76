use Rattle.std.proofs.Common.{◌≡◌, ◌<◌, [], map, get_or, sym, refl, ap, ◌∙◌, subst, arith}
use Rattle.std.proofs.lemmas.Bool.Decides.{not_from_Decides}
use Rattle.std.proofs.lemmas.List.{take_all}
use Rattle.rules.specs.Bounds.{body_of, flags}
use Rattle.rules.specs.declared.Term.TheVariants.{Variable}
use Rattle.rules.specs.Logic.{In, Each, terms_of}
use Rattle.rules.specs.Matches.{under}
use Rattle.rules.specs.Reliances.{Alternative}
use Rattle.rules.specs.Rules.{meaning}
use Rattle.matches.specs.Lists.{look, formulas}
use Rattle.matches.proofs.Bounded.{bounded}
use Rattle.reliances.specs.declared.sheet.Kind.TheVariants.{Restraint}
use Rattle.reliances.specs.Unification.{part, loose_count, later_of}
use Rattle.reliances.specs.RestraintSearch.{AreLoose}
use Rattle.reliances.specs.Searching.{OnWay, Deserted}
use Rattle.reliances.proofs.Nodes.{get_d_in, each_taken}
use Rattle.reliances.proofs.RestraintNodes.{before_is, laid_later_lem}
use Rattle.reliances.proofs.SearchSteps.{said_no}
use Rattle.reliances.proofs.RestraintEnd.{Refuted, none_open, found_shows, falls, moved_node, all_refuted}
use Rattle.reliances.proofs.restraint_search.+settle.Goals as goal

pub returns-then-not-is_open : goal.returns-then-not-is_open
returns-then-not-is_open t c =
    let q = c.args.asked.now in
    let way = c.args.way.now in
    (none_open q.first.now q.second.now q.rigid q.flags way.sigma.now way.old.now [] c.requires.node (not_from_Decides c.is_open.result c.is_open.ensures c.if-not-is_open.true), refl)

pub returns-in_default : goal.returns-in_default
returns-in_default t c =
    let q = c.args.asked.now in
    let A = q.first.now in
    let B = q.second.now in
    let σ = c.args.way.now.sigma.now in
    let old = c.args.way.now.old.now in
    let S = formulas c.deref-2.result.now in
    let d : S ≡ later_of (meaning A) (meaning B) σ (formulas old) = ap formulas (c.deref-2.ensures.0 ∙ c.later-list.ensures) ∙ laid_later_lem A B σ old in
    found_shows A B q.rigid q.flags σ old c.sized.ensures c.sized-in_default.ensures c.found_sheet.result c.requires.node
    (c.is_open.ensures.0 c.if-not-is_open.false)
    (λ k a. c.in_default.ensures k (subst (λ z. Alternative (meaning B) (look (part σ 12)) z k) (sym d) a))
    c.found_sheet.ensures

pub loop-null-init : goal.loop-null-init
loop-null-init t c = (refl, λ x i. absurd i)

pub overflow_add-spared : goal.overflow_add-spared
overflow_add-spared t c =
    let l : c.in-Some.field-0.spared < 12 = (bounded c.args.asked.now.second.now).head (Variable c.in-Some.field-0.spared) c.in-Some.ensures.1.given.0 in
    omega (arith, l)

pub settle-requires : goal.settle-requires
settle-requires t c =
    let q = c.args.asked.now in
    let A = q.first.now in
    let B = q.second.now in
    let σ = c.args.way.now.sigma.now in
    let old = c.args.way.now.old.now in
    let list = c.deref-2.result.now in
    let S = formulas list in
    let d : S ≡ later_of (meaning A) (meaning B) σ (formulas old) = ap formulas (c.deref-2.ensures.0 ∙ c.later-list.ensures) ∙ laid_later_lem A B σ old in
    let v = c.in-Some.field-0.spared in
    let found = c.in-Some.ensures in
    let nulls = c.as_slice-null-items.result.now in
    let r = get_or nulls c.loop-null.null-index 0 in
    let loose = found.2.sound r (subst (In r) c.as_slice-null-items.ensures.value (get_d_in nulls c.loop-null.null-index 0 c.loop-null-test.true)) in
    let fall : loose_count (flags q.rigid) c.replace.new.sigma < loose_count (flags q.rigid) σ =
    subst (λ x. loose_count (flags q.rigid) x < loose_count (flags q.rigid) σ) (sym c.replace.ensures)
    (falls A B q.rigid q.flags σ old (part σ 12) S v found.0 c.requires.node refl d found.1 r loose.0.0 loose.1) in (
      omega (arith, fall, c.decreases),
      (
        c.requires.few,
        subst (λ x. OnWay Restraint A B q.rigid x old []) (sym c.replace.ensures) (moved_node A B q.rigid q.flags σ old (part σ 12) S v found.0 c.requires.node refl d found.1 r loose.0.0),
      ),
    )

pub loop-null-preserved : goal.loop-null-preserved
loop-null-preserved t c =
    let q = c.args.asked.now in
    let A = q.first.now in
    let B = q.second.now in
    let σ = c.args.way.now.sigma.now in
    let old = c.args.way.now.old.now in
    let left = said_no Restraint A B q.rigid c.replace.new.sigma old c.loop-null.sheet c.settle.new.sheet c.settle.result c.if-settle.false c.settle.ensures in (
      left.1 ∙ c.loop-null.invariant.0,
      each_taken (Refuted A B q.rigid σ old c.in-Some.field-0.spared) c.as_slice-null-items.result.now c.loop-null.null-index 0 c.loop-null-test.true c.loop-null.invariant.1
          (subst (λ z. Deserted Restraint A B q.rigid z old) c.replace.ensures left.0),
    )

pub returns : goal.returns
returns t c =
    let q = c.args.asked.now in
    let A = q.first.now in
    let B = q.second.now in
    let σ = c.args.way.now.sigma.now in
    let old = c.args.way.now.old.now in
    let list = c.deref-2.result.now in
    let laid = c.deref-2.ensures.0 ∙ c.later-list.ensures in
    let d : formulas list ≡ later_of (meaning A) (meaning B) σ (formulas old) = ap formulas laid ∙ laid_later_lem A B σ old in
    let v = c.in-Some.field-0.spared in
    let found = c.in-Some.ensures in (
      all_refuted A B q.rigid q.flags σ old (part σ 12) (formulas list) v found.0 c.requires.node refl d found.1 c.in-Some.field-0.nulls.items
          (subst (λ C. AreLoose (flags q.rigid) C (terms_of (map (under found.0) (meaning B).head)) c.in-Some.field-0.nulls.items)
          (before_is A B σ old list (body_of B.parts) laid refl) found.2)
          (subst (Each (Refuted A B q.rigid σ old v)) (take_all c.loop-null.null-index c.as_slice-null-items.result.now (omega (arith, c.loop-null-test.false)) ∙ c.as_slice-null-items.ensures.value)
          c.loop-null.invariant.1),
      c.loop-null.invariant.0,
    )
