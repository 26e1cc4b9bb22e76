use Rattle.std.proofs.Common.{arith}
use Rattle.shelf.specs.Held.{rules_on}
use Rattle.shelf.proofs.Lawful.{going_more}
use Rattle.shelf.proofs.runs.run.Goals as goal

pub loop-i-preserved : goal.loop-i-preserved
loop-i-preserved c =
    going_more c.args.calls.now c.min-made.result c.args.answers.now (rules_on c.loop-i.shelf) (rules_on c.make.new.shelf) c.loop-i.answers c.loop-i.i c.index-calls-i.result c.make.result
    c.index-calls-i.is c.loop-i-test.true (omega (arith, c.min-made.ensures)) (omega (arith, c.min-made.ensures)) c.make.ensures.right c.make.ensures.then c.loop-i.invariant
