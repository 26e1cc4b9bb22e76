use Rattle.std.proofs.Common.{◌∙◌, arith}
use Rattle.volumes.proofs.Checking.{rising_on}
use Rattle.volumes.proofs.rule_volume.RuleContents.check_rising.Goals as goal

pub loop-index-preserved : goal.loop-index-preserved
loop-index-preserved c = c.loop-index.invariant ∙ rising_on c.args.self.now.bytes.now c.loop-index.index c.args.self.now.count (omega arith) (omega arith) (omega arith)
