use Rattle.std.proofs.Common.{subst, ap, ◌∙◌, ◌++◌, take}
use Rattle.matches.specs.Lists.{formulas}
use Rattle.volumes.specs.Answers.{Nth}
use Rattle.volumes.specs.Volumes.{rules_of, numbered, RuleHad}
use Rattle.sources.specs.Rows.{RowsTaken}
use Rattle.sources.specs.Additions.{own_facts}
use Rattle.sources.specs.Piles.{OwnAfter}
use Rattle.sources_c.specs.Calls.{AfterSays, FactsFrom}
use Rattle.sources_c.proofs.Searches.{searched}
use Rattle.sources_c.proofs.pz_find_after.Goals as goal

pub returns : goal.returns
returns c =
    let F = formulas c.take_up-below.result.rows.now in
    let own = own_facts c.find_after-answer.result.0.own in
    let all = F ++ own in
    AfterSays.searched (record {
      below = F;
      taken = subst (λ xs. RowsTaken xs F) (ap (λ n. take n c.table-table.result) c.min.ensures ∙ c.table-table.ensures) c.take_up-below.ensures;
      applied = c.in-Some-Some.applied.rule;
      number = c.in-Some-Some.applied.number;
      first = subst (λ bs. Nth (rules_of bs) 0 (numbered c.in-Some-Some.applied)) c.take_up-volume.ensures.same (subst (λ o. RuleHad (rules_of c.take_up-volume.result.bytes.now) 0 o) c.in-Some-Some.is-0 c.rule.ensures);
      found = numbered c.in-Some-Some.rule;
      second = subst (λ bs. Nth (rules_of bs) 1 (numbered c.in-Some-Some.rule)) c.take_up-volume.ensures.same c.in-Some-Some.ensures;
      own = own;
      after_calls = subst (λ calls. OwnAfter F calls own) (ap (λ n. take n c.applications-applications.result) c.min-2.ensures ∙ c.applications-applications.ensures) c.find_after-answer.ensures.own;
      told = subst (λ k. FactsFrom all k c.facts_from.result) c.count.ensures (subst (λ G. FactsFrom G c.count.result c.facts_from.result) c.find_after-answer.ensures.means c.facts_from.ensures);
      searched = searched _ all c.args.lent.now c.find_after-answer.result.1 _ _ c.terms-found.ensures c.said.ensures c.plain_given-lent.ensures c.find_after-answer.ensures.answer;
    })
