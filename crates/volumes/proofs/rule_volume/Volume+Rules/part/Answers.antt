use Rattle.std.proofs.Common.{◌∙◌, arith}
use Rattle.volumes.proofs.Had.{rule_there}
use Rattle.volumes.proofs.rule_volume.Volume+Rules.part.Goals as goal

pub invariant_of-contents : goal.invariant_of-contents
invariant_of-contents c =
    let t = rule_there c.args.self.now.bytes.now c.args.index (omega arith) in
    let all = t.all in
    let count = c.args.self.now.counted in
    record { counted = count ∙ all; few = omega arith; whole = omega arith }

pub invariant_of-result : goal.invariant_of-result
invariant_of-result c =
    let t = rule_there c.args.self.now.bytes.now c.args.index (omega arith) in
    let up = t.order in
    let in_bytes = t.within in
    record { within = (omega (arith, c.rules_end.ensures, c.rules_end-2.ensures), omega (arith, c.rules_end-2.ensures)) }
