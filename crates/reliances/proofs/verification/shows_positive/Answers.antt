use Rattle.std.proofs.Common.{false, ap, ◌∙◌, arith}
use Rattle.std.proofs.lemmas.Bool.Decides.{not_from_Decides}
use Rattle.rules.specs.Matches.{result}
use Rattle.rules.specs.Rules.{meaning}
use Rattle.rules.proofs.Membership.{decides_false}
use Rattle.matches.specs.Lists.{look, formulas}
use Rattle.reliances.proofs.Verified.{begun, listed_facts, positive_decided, reliance_decided}
use Rattle.reliances.proofs.verification.shows_positive.Goals.{then-not-is_applied-via-then-not-is_applied, then-not-is_applied-via-else-not-is_applied+then-is_match}
use Rattle.reliances.proofs.verification.shows_positive.Goals as goal

pub returns-then-not-is_applied : goal.returns-then-not-is_applied
returns-then-not-is_applied c =
    let read = c.in-Some.ensures in
    positive_decided c.args.a.now c.args.b.now c.args.sheet.now c.in-Some.facts.now read.1 c.sized.ensures read.0 (omega arith) false
    (decides_false
    (elim c.then-not-is_applied.branch [
      | then-not-is_applied-via-then-not-is_applied w ↦ λ s. not_from_Decides c.is_applied.result c.is_applied.ensures w.if-not-is_applied.true s.first
      | then-not-is_applied-via-else-not-is_applied+then-is_match w ↦ λ s. s.new (w.is_match.ensures.0 w.if-is_match.true)
    ]))

pub returns : goal.returns
returns c =
    let A = meaning c.args.a.now in
    let sheet = c.args.sheet.now in
    let f = look sheet.first_rule in
    let facts = c.in-Some.facts.now in
    let read = c.in-Some.ensures in
    let all = c.push_all.new.into.items in
    positive_decided c.args.a.now c.args.b.now sheet facts read.1 c.sized.ensures read.0 (omega arith) c.is_unsatisfied.result
    (reliance_decided A (meaning c.args.b.now) (formulas facts) _ f (look sheet.second_rule)
    (listed_facts 11 sheet.first_len sheet.first facts read.1 read.0)
    (ap formulas c.as_slice.ensures.value ∙ c.apply.ensures.is ∙ ap (λ z. result A f (formulas z)) (begun c.new-all.result.items facts all c.new-all.ensures c.push_all.ensures))
    (c.is_applied.ensures.0 c.if-not-is_applied.false)
    (not_from_Decides c.is_match.result c.is_match.ensures c.if-is_match.false)
    c.is_unsatisfied.result c.is_unsatisfied.ensures)
