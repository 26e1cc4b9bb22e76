use Rattle.std.proofs.Common.{[], length, take, sym, ap, subst, arith}
use Rattle.std.proofs.lemmas.List.{take_all}
use Rattle.rules.specs.Bounds.{flags}
use Rattle.rules.specs.Logic.{terms_of}
use Rattle.matches.specs.Lists.{formulas}
use Rattle.reliances.specs.RestraintSearch.{AreLoose}
use Rattle.reliances.proofs.LooseNulls.{none_yet, terms_more}
use Rattle.reliances.proofs.early.Looseness.of.Goals as goal

pub loop-a-init : goal.loop-a-init
loop-a-init c =
    let empty = c.new-nulls.ensures in (
      (let l = ap length empty in omega (arith, l)),
      subst (AreLoose (flags c.args.self.rigid.now) (formulas c.args.self.before.now) []) (sym empty) (none_yet (flags c.args.self.rigid.now) (formulas c.args.self.before.now)),
    )

pub loop-a-preserved : goal.loop-a-preserved
loop-a-preserved c =
    let few = c.loop-a.invariant.0 in
    let more = c.add.ensures.few in (
      omega (arith, few, more),
      subst (λ z. AreLoose (flags c.args.self.rigid.now) (formulas c.args.self.before.now) z c.add.new.nulls.items)
          (sym (terms_more c.args.atoms.now c.loop-a.a-index c.loop-a-test.true))
          (c.add.ensures.loose (terms_of (formulas (take c.loop-a.a-index c.args.atoms.now))) c.loop-a.invariant.1),
    )

pub returns : goal.returns
returns c =
    subst (λ z. AreLoose (flags c.args.self.rigid.now) (formulas c.args.self.before.now) (terms_of (formulas z)) c.loop-a.nulls.items)
    (take_all c.loop-a.a-index c.args.atoms.now (omega (arith, c.loop-a-test.false)))
    c.loop-a.invariant.1
