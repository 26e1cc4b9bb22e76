use Rattle.std.proofs.Common.{◌≡◌, ◌+◌, ◌*◌, ◌≤◌}
use Rattle.volumes.specs.Layout.{rules_end}
use Rattle.volumes.proofs.rule_volume.RuleContents.rules_end.Given as goal

-- a length has two bytes
abbrev pub invariant-loop-index : goal.invariant-loop-index
invariant-loop-index l = (l.end ≡ rules_end l.self.bytes.now l.index) × (l.end ≤ 300 + 70000 * l.index)
