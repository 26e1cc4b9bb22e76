use Rattle.std.proofs.Common.{◌<◌, length, ap, ◌∙◌, ◌++◌, ◌∷◌, [], sym, arith}
use Rattle.volumes.specs.Volumes.{rules_of, numbered}
use Rattle.listing.proofs.Printing.{volume_rules, numbers_few, numbers_more}
use Rattle.listing.proofs.asked.numbers_of.Goals.{in-Some, in_default}
use Rattle.listing.proofs.asked.numbers_of.Goals as goal

pub push-requires : goal.push-requires
push-requires c =
    let rs = rules_of c.args.volume.now.bytes.now in
    let few : length c.loop-index.numbers.items < 64 = numbers_few rs c.loop-index.index c.loop-index.numbers.items c.loop-index.invariant c.in-Some.ensures.0 (volume_rules c.args.volume.now.bytes.now).1 in
    (omega arith, few)

pub loop-index-preserved : goal.loop-index-preserved
loop-index-preserved c =
    let rs = rules_of c.args.volume.now.bytes.now in
    elim c.match-rule.branch [
      | in-Some w ↦
          ap (λ z. z.items) w.numbers-is ∙ w.push.ensures.items ∙ ap (λ z. z ++ (w.in-Some.rule.number ∷ [])) c.loop-index.invariant
          ∙ sym (numbers_more rs c.loop-index.index (numbered w.in-Some.rule) w.in-Some.ensures)
      | in_default w ↦ absurd (omega (arith, w.in_default.ensures, c.loop-index-test.true, c.count-index-end.ensures))
    ]
