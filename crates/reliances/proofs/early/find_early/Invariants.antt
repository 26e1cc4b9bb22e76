use Rattle.rules.specs.Bounds.{flags}
use Rattle.rules.specs.Rules.{meaning}
use Rattle.matches.specs.Lists.{look, formulas}
use Rattle.reliances.proofs.LooseNulls.{SoFar}
use Rattle.reliances.proofs.early.find_early.Given as goal

abbrev pub invariant-loop-spared : goal.invariant-loop-spared
invariant-loop-spared l =
    SoFar (meaning l.trigger.rule.now) (flags l.looseness.rigid.now) (formulas l.looseness.before.now) (look l.trigger.values.now) (formulas l.trigger.facts.now) l.spared l.best
