use Rattle.std.proofs.Common.{subst, ap, ◌∙◌, take}
use Rattle.matches.specs.Lists.{formulas, look}
use Rattle.rules.specs.Rules.{meaning}
use Rattle.volumes.specs.Answers.{Nth}
use Rattle.volumes.specs.Volumes.{rules_of, numbered}
use Rattle.sources.specs.Rows.{RowsTaken}
use Rattle.sources.specs.Additions.{own_facts}
use Rattle.sources.specs.Applying.{ApplyAnswer}
use Rattle.sources_c.specs.Calls.{ApplySays}
use Rattle.sources_c.proofs.pz_apply.Goals as goal

pub returns : goal.returns
returns c =
    let F = formulas c.take_up-2.result.rows.now in
    let r = meaning c.in-Some.rule.rule in
    let own = own_facts c.apply.new.self.own in
    ApplySays.applied F
    (subst (λ xs. RowsTaken xs F) (ap (λ n. take n c.table-table.result) c.min.ensures ∙ c.table-table.ensures) c.take_up-2.ensures)
    (numbered c.in-Some.rule)
    (subst (λ bs. Nth (rules_of bs) 0 (numbered c.in-Some.rule)) c.take_up.ensures.same c.in-Some.ensures)
    c.apply.result own
    (subst (λ vs. ApplyAnswer r (look vs) F _ c.apply.result own) c.terms.ensures
    (subst (λ before. ApplyAnswer r (look c.terms.result) F before c.apply.result own) c.new-addition.ensures.own
    (subst (λ t. ApplyAnswer r (look c.terms.result) (formulas t.rows.now) (own_facts c.new-addition.result.own) c.apply.result own) c.new-addition.ensures.below c.apply.ensures.answer)))
    c.told.ensures
