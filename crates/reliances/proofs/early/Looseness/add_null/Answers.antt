use Rattle.std.proofs.Common.{◌≡◌, [], ◌∷◌, ◌++◌, sym, subst}
use Rattle.std.proofs.lemmas.Bool.Decides.{not_from_Decides}
use Rattle.rules.specs.declared.Term.TheVariants.{Null}
use Rattle.rules.specs.Bounds.{flags}
use Rattle.rules.specs.Logic.{In}
use Rattle.matches.specs.Lists.{formulas}
use Rattle.reliances.specs.RestraintSearch.{Loose, AreLoose}
use Rattle.reliances.proofs.LooseNulls.{gathered, passed}
use Rattle.reliances.proofs.early.Looseness.add_null.Goals.{else-is_loose-via-then-is_loose+else-not-is_in, else-is_loose-via-else-is_loose}
use Rattle.reliances.proofs.early.Looseness.add_null.Goals as goal

pub returns-then-not-is_in-clause-loose : goal.returns-then-not-is_in-clause-loose
returns-then-not-is_in-clause-loose c = λ ts a.
    let rigid = flags c.args.self.rigid.now in
    let C = formulas c.args.self.before.now in
    let n = c.args.null in
    subst (AreLoose rigid C (ts ++ (Null n ∷ []))) (sym c.push.ensures.items) (gathered rigid C n ts c.args.nulls.now.items (c.is_loose.ensures.0 c.if-is_loose.true) a)

pub returns-else-is_loose-clause-loose : goal.returns-else-is_loose-clause-loose
returns-else-is_loose-clause-loose c = λ ts a.
    let rigid = flags c.args.self.rigid.now in
    let C = formulas c.args.self.before.now in
    let n = c.args.null in
    let rs = c.args.nulls.now.items in
    passed rigid C (Null n) ts rs
    (λ r e loose.
    let same : n ≡ r = cc e in
    subst (λ m. In m rs) same
    (elim c.else-is_loose.branch [
      | else-is_loose-via-then-is_loose+else-not-is_in w ↦ subst (In n) w.as_slice.ensures.value (w.is_in.ensures.0 w.if-not-is_in.false)
      | else-is_loose-via-else-is_loose w ↦ absurd (not_from_Decides c.is_loose.result c.is_loose.ensures w.if-is_loose.false (subst (Loose rigid C) (sym same) loose))
    ]))
    a
