use Rattle.std.proofs.Common.{arith}
use Rattle.volumes.proofs.Had.{rule_there, rule_ok, rule_had}
use Rattle.volumes.proofs.rule_volume.Volume+Rules.rule.Goals as goal

pub number-requires : goal.number-requires
number-requires c = let t = rule_there c.args.self.now.bytes.now c.args.index c.in_ok-part.ensures.0 in omega arith

pub unwrap-requires : goal.unwrap-requires
unwrap-requires c = rule_ok c.args.self.now.bytes.now c.args.index c.in_ok-part.part c.in_ok-part.ensures _ c.rule.ensures

pub returns : goal.returns
returns c =
    rule_had c.args.self.now.bytes.now c.args.index c.in_ok-part.part c.in_ok-part.ensures
    (record { number = c.number.result; rule = c.unwrap.result }) c.number.ensures (rw c.unwrap.ensures at c.rule.ensures)
