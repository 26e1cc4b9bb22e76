use Rattle.std.proofs.Common.{◌≡◌, ◌+◌, ◌*◌, Err, sym, ap, ◌∙◌, arith}
use Rattle.volumes.specs.Layout.{extent}
use Rattle.volumes.specs.Reading.{read_rule_entry}
use Rattle.volumes.proofs.RuleVolumes.{ends_more, rule_within}
use Rattle.volumes.proofs.Checking.{rule_entry_ok, rule_entry_err, rule_entries}
use Rattle.volumes.proofs.Loops.{reads_on, reads_stop, reads_done}
use Rattle.volumes.proofs.rule_volume.RuleContents.check_bodies.Goals as goal

pub overflow_add-end : goal.overflow_add-end
overflow_add-end c =
    let w = rule_within c.args.self.now.bytes.now c.loop-index.index c.args.self.now.count c.loop-index.place c.loop-index.invariant.0 (omega arith) in
    omega (arith, c.extent.ensures.value)

pub invariant_of-rule : goal.invariant_of-rule
invariant_of-rule c =
    let w = rule_within c.args.self.now.bytes.now c.loop-index.index c.args.self.now.count c.loop-index.place c.loop-index.invariant.0 (omega arith) in
    record { within = (omega arith, omega (arith, c.extent.ensures.value)) }

pub returns-in-Err : goal.returns-in-Err
returns-in-Err c =
    let bs = c.args.self.now.bytes.now in
    let i = c.loop-index.index in
    let s = c.loop-index.place in
    let v = c.loop-index.invariant.1 in
    let end : s + c.extent.result ≡ s + extent bs i = ap (λ n. s + n) c.extent.ensures.value in
    let wrong = rule_entry_err bs i s _ _ end c.in-Err.ensures in
    rule_entries bs c.args.self.now.count _ c.args.self.now.counted
    (reads_stop (read_rule_entry bs) (λ i s _. s + extent bs i) (3 + 4 * c.args.self.now.count) v.0 i s v.2 v.1 c.args.self.now.count _ (omega arith) wrong
    ∙ ap (λ f. Err f) (sym c.into.ensures))

pub loop-index-preserved : goal.loop-index-preserved
loop-index-preserved c =
    let bs = c.args.self.now.bytes.now in
    let i = c.loop-index.index in
    let s = c.loop-index.place in
    let v = c.loop-index.invariant.1 in
    let more = ends_more bs i in
    let end : s + c.extent.result ≡ s + extent bs i = ap (λ n. s + n) c.extent.ensures.value in
    let x = rule_entry_ok bs i s _ _ end c.in_default.ensures in (
      omega (arith, c.extent.ensures.value),
      reads_on (read_rule_entry bs) (λ i s _. s + extent bs i) (3 + 4 * c.args.self.now.count) v.0 i s v.2 v.1 _ _ x (sym end),
    )

pub returns : goal.returns
returns c =
    let bs = c.args.self.now.bytes.now in
    let i = c.loop-index.index in
    let s = c.loop-index.place in
    let v = c.loop-index.invariant.1 in
    let all : i ≡ c.args.self.now.count = omega arith in (
      v.0,
      s,
      v.1 ∙ all,
      rule_entries bs c.args.self.now.count _ c.args.self.now.counted
          (reads_done (read_rule_entry bs) (λ i s _. s + extent bs i) (3 + 4 * c.args.self.now.count) v.0 i s v.2 v.1 c.args.self.now.count all),
    )
