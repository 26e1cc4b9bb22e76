use Rattle.std.proofs.Common.{◌++◌, [], ◌∷◌, length, sym, ap, ◌∙◌, subst, arith}
use Rattle.std.proofs.lemmas.List.{take_all}
use Rattle.rules.specs.Bounds.{flags}
use Rattle.matches.specs.Lists.{formulas}
use Rattle.reliances.specs.RestraintSearch.{AreLoose}
use Rattle.reliances.proofs.LooseNulls.{passed, one_more}
use Rattle.reliances.proofs.early.Looseness.add.Goals.{in-Null, in_default}
use Rattle.reliances.proofs.early.Looseness.add.Goals as goal

pub loop-t-preserved : goal.loop-t-preserved
loop-t-preserved c =
    let rigid = flags c.args.self.rigid.now in
    let C = formulas c.args.self.before.now in
    let items = c.args-t-items.result.now in
    let i = c.loop-t.t-index in
    let next = one_more rigid C items i c.loop-t-test.true in
    let few = c.loop-t.invariant.0 in
    elim c.match-t.branch [
      | in-Null w ↦
          let here = ap (λ z. z.items) w.nulls-is in (
            (let l = ap (λ z. length z.items) w.nulls-is in let m = w.add_null.ensures.few in omega (arith, few, l, m)),
            λ ts a. next ts c.loop-t.nulls.items c.match-t.nulls.items (c.loop-t.invariant.1 ts a)
                (λ qs b. subst (AreLoose rigid C (qs ++ (_ ∷ []))) (sym here)
                (subst (λ t. AreLoose rigid C (qs ++ (t ∷ [])) w.add_null.new.nulls.items) (sym w.in-Null.is) (w.add_null.ensures.loose qs b))),
          )
      | in_default w ↦
          let here = ap (λ z. z.items) w.nulls-is in (
            (let l = ap (λ z. length z.items) w.nulls-is in omega (arith, few, l)),
            λ ts a. next ts c.loop-t.nulls.items c.match-t.nulls.items (c.loop-t.invariant.1 ts a)
                (λ qs b. subst (AreLoose rigid C (qs ++ (_ ∷ []))) (sym here)
                (passed rigid C _ qs c.loop-t.nulls.items (λ r e loose. absurd (w.in_default.not-Null r e)) b)),
          )
    ]

pub returns-clause-loose : goal.returns-clause-loose
returns-clause-loose c = λ ts a.
    subst (λ z. AreLoose (flags c.args.self.rigid.now) (formulas c.args.self.before.now) (ts ++ z) c.loop-t.nulls.items)
    (take_all c.loop-t.t-index c.args-t-items.result.now (omega (arith, c.loop-t-test.false)) ∙ c.args-t-items.ensures)
    (c.loop-t.invariant.1 ts a)
