use Rattle.std.proofs.Common.{subst, ap, ◌∙◌, take}
use Rattle.matches.specs.Lists.{formulas}
use Rattle.volumes.specs.Answers.{Nth}
use Rattle.volumes.specs.Volumes.{rules_of, numbered}
use Rattle.sources.specs.Rows.{RowsTaken}
use Rattle.sources_c.specs.Calls.{FindSays}
use Rattle.sources_c.proofs.Searches.{searched}
use Rattle.sources_c.proofs.pz_find.Goals as goal

pub returns : goal.returns
returns c =
    let F = formulas c.take_up-source.result.rows.now in
    FindSays.searched F
    (subst (λ xs. RowsTaken xs F) (ap (λ n. take n c.table-table.result) c.min.ensures ∙ c.table-table.ensures) c.take_up-source.ensures)
    (numbered c.in-Some.rule)
    (subst (λ bs. Nth (rules_of bs) 0 (numbered c.in-Some.rule)) c.take_up.ensures.same c.in-Some.ensures)
    (searched _ F c.args.lent.now c.find-answer.result _ _ c.terms-found.ensures c.said.ensures c.plain_given-lent.ensures c.find-answer.ensures.answer)
