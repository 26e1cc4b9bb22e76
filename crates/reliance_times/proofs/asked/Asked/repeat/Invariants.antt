use Rattle.std.proofs.Common.{◌≡◌, true, Decides}
use Rattle.rules.specs.Rules.{meaning}
use Rattle.reliances.specs.Sheets.{Shows, Holds}
use Rattle.reliance_times.proofs.asked.Asked.repeat.Given as goal

abbrev pub invariant-loop : goal.invariant-loop
invariant-loop l = record {
  holds : Decides l.yes (Holds l.self.kind (meaning l.self.first.now.rule) (meaning l.self.second.now.rule));
  shown : l.yes ≡ true → Shows l.self.kind (meaning l.self.first.now.rule) (meaning l.self.second.now.rule) l.sheet;
}
