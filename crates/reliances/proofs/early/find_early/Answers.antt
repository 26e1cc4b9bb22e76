use Rattle.std.proofs.Common.{◌+◌, sym, subst, arith}
use Rattle.std.proofs.lemmas.Bool.{both_ways}
use Rattle.rules.specs.Bounds.{flags}
use Rattle.rules.specs.Rules.{meaning}
use Rattle.matches.specs.Lists.{look, formulas}
use Rattle.reliances.proofs.LooseNulls.{SoFar, after_none, after_same, after_all}
use Rattle.reliances.proofs.early.find_early.Goals.{in-Some+then-is_fewer, in-Some+else-is_fewer, in_default}
use Rattle.reliances.proofs.early.find_early.Goals as goal

pub loop-spared-preserved : goal.loop-spared-preserved
loop-spared-preserved c =
    let B = c.args.trigger.rule.now in
    let rigid = flags c.args.looseness.rigid.now in
    let C = formulas c.args.looseness.before.now in
    let h = look c.args.trigger.values.now in
    let S = formulas c.args.trigger.facts.now in
    let n = c.loop-spared.spared in
    elim c.match-find_alternative.branch [
      | in-Some+then-is_fewer w ↦ subst (SoFar (meaning B) rigid C h S (n + 1)) (sym w.best-is) (look w.in-Some.values, w.in-Some.ensures, w.in_head-nulls.ensures)
      | in-Some+else-is_fewer w ↦
          subst (SoFar (meaning B) rigid C h S (n + 1)) (sym w.best-is)
          (after_same B rigid C h S n c.loop-spared.best (λ e. both_ways w.is_fewer.result w.if-is_fewer.false (w.is_fewer.ensures e)) c.loop-spared.invariant)
      | in_default w ↦ subst (SoFar (meaning B) rigid C h S (n + 1)) (sym w.best-is) (after_none B rigid C h S n c.loop-spared.best w.in_default.ensures c.loop-spared.invariant)
    ]

pub returns : goal.returns
returns c =
    after_all c.args.trigger.rule.now (flags c.args.looseness.rigid.now) (formulas c.args.looseness.before.now) (look c.args.trigger.values.now) (formulas c.args.trigger.facts.now)
    c.loop-spared.spared (omega (arith, c.loop-spared-test.false)) c.loop-spared.best c.loop-spared.invariant
