use Rattle.std.proofs.Common.{◌≡◌, ◌-◌}
use Rattle.volumes.specs.Reading.{read_rising}
use Rattle.volumes.proofs.rule_volume.RuleContents.check_rising.Given as goal

abbrev pub invariant-loop-index : goal.invariant-loop-index
invariant-loop-index l = read_rising l.self.bytes.now 0 (l.self.count - 1) ≡ read_rising l.self.bytes.now (l.index - 1) (l.self.count - l.index)
