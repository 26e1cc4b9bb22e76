use Rattle.std.proofs.Common.{◌∙◌, subst}
use Rattle.rules.specs.Bounds.{flags}
use Rattle.rules.specs.Logic.{terms_of}
use Rattle.matches.specs.Lists.{look, formulas}
use Rattle.reliances.specs.RestraintSearch.{AreLoose}
use Rattle.reliances.proofs.Laying.{laid_one}
use Rattle.reliances.proofs.RestraintNodes.{given_is}
use Rattle.reliances.proofs.early.in_head.Goals as goal

pub returns : goal.returns
returns c =
    let l = c.args.looseness in
    let given = given_is c.args.trigger.rule.now (look c.args.values.now) c.head.result.now c.deref.result.now c.head.ensures.same
    (c.deref.ensures.0 ∙ laid_one _ c.push_each.new.into.items _ c.head.result.now c.new-given.ensures c.push_each.ensures) in
    subst (λ z. AreLoose (flags l.rigid.now) (formulas l.before.now) (terms_of z) c.of.result.items) given c.of.ensures
