use Rattle.std.proofs.Common.{◌≡◌, ◌+◌, ◌*◌, List, length}
use Rattle.rules.specs.Logic.{Numbered}
use Rattle.volumes.specs.Layout.{rules_end, extent}
use Rattle.volumes.specs.Reading.{read_rule_entry}
use Rattle.volumes.proofs.Loops.{Reads}
use Rattle.volumes.proofs.rule_volume.RuleContents.check_bodies.Given as goal

abbrev pub invariant-loop-index : goal.invariant-loop-index
invariant-loop-index l =
    (l.place ≡ rules_end l.self.bytes.now l.index)
    × ((xs : List Numbered) × (length xs ≡ l.index) × Reads (read_rule_entry l.self.bytes.now) (λ i s _. s + extent l.self.bytes.now i) (3 + 4 * l.self.count) xs l.place)
