use Rattle.std.proofs.Common.{false, ap, ◌∙◌}
use Rattle.std.proofs.lemmas.Bool.Decides.{not_from_Decides}
use Rattle.rules.specs.Matches.{result}
use Rattle.rules.specs.Rules.{meaning}
use Rattle.rules.proofs.Membership.{decides_false}
use Rattle.matches.specs.Lists.{look, formulas}
use Rattle.reliances.proofs.Verified.{begun, added_to, listed_facts, restrained_decided, restraint_decided, not_applied, too_early}
use Rattle.reliances.proofs.verification.shows_restraint.Goals.{then-not-is_applied-2-via-then-not-is_applied-2, then-not-is_applied-2-via-else-not-is_applied-2+then-has_alternative}
use Rattle.reliances.proofs.verification.shows_restraint.Goals as goal

pub returns-then-not-is_applied-2 : goal.returns-then-not-is_applied-2
returns-then-not-is_applied-2 c =
    let A = c.args.a.now in
    let B = c.args.b.now in
    let sheet = c.args.sheet.now in
    let facts = c.in-Some.facts.now in
    let besides = c.in-Some-besides.besides.now in
    let one = c.in-Some.ensures in
    let two = c.in-Some-besides.ensures in
    let f = look sheet.first_rule in
    let h = look sheet.second_rule in
    let k = look sheet.alternative in
    let all = begun c.new-all.result.items facts c.push_all.new.into.items c.new-all.ensures c.push_all.ensures in
    let here = ap formulas c.as_slice.ensures.value ∙ added_to B h facts c.push_all.new.into.items c.apply.new.facts.items besides c.push_all-2.new.into.items all c.apply.ensures.is c.push_all-2.ensures in
    restrained_decided A B sheet facts one.1 besides two.1 c.sized.ensures one.0 two.0 false
    (decides_false
    (elim c.then-not-is_applied-2.branch [
      | then-not-is_applied-2-via-then-not-is_applied-2 w ↦
          not_applied A B (formulas facts) (formulas besides) f h k _ here (not_from_Decides c.is_applied-2.result c.is_applied-2.ensures w.if-not-is_applied-2.true)
      | then-not-is_applied-2-via-else-not-is_applied-2+then-has_alternative w ↦
          too_early A B (formulas facts) (formulas besides) f h k _ here (w.has_alternative.ensures.0 w.if-has_alternative.true)
    ]))

pub returns : goal.returns
returns c =
    let A = c.args.a.now in
    let B = c.args.b.now in
    let sheet = c.args.sheet.now in
    let facts = c.in-Some.facts.now in
    let besides = c.in-Some-besides.besides.now in
    let one = c.in-Some.ensures in
    let two = c.in-Some-besides.ensures in
    let f = look sheet.first_rule in
    let h = look sheet.second_rule in
    let k = look sheet.alternative in
    let all = begun c.new-all.result.items facts c.push_all.new.into.items c.new-all.ensures c.push_all.ensures in
    let here = added_to B h facts c.push_all.new.into.items c.apply.new.facts.items besides c.push_all-2.new.into.items all c.apply.ensures.is c.push_all-2.ensures in
    restrained_decided A B sheet facts one.1 besides two.1 c.sized.ensures one.0 two.0 c.is_alternative.result
    (restraint_decided A B (formulas facts) (formulas besides) f h k c.sized-2.ensures
    (listed_facts 11 sheet.first_len sheet.first facts one.1 one.0) (listed_facts 9 sheet.second_len sheet.second besides two.1 two.0) _ _
    (ap formulas c.as_slice.ensures.value ∙ here)
    (ap formulas c.as_slice-2.ensures.value ∙ c.apply-2.ensures.is ∙ ap (result (meaning A) f) here)
    (c.is_applied.ensures.0 c.if-not-is_applied.false) (c.is_applied-2.ensures.0 c.if-not-is_applied-2.false)
    (not_from_Decides c.has_alternative.result c.has_alternative.ensures c.if-has_alternative.false)
    c.is_alternative.result c.is_alternative.ensures)
