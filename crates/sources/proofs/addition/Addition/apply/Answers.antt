use Rattle.std.proofs.Common.{Err, map, refl, ap, subst, sym, ◌∙◌}
use Rattle.std.proofs.lemmas.Result.{err_from_is_err_and}
use Rattle.rules.specs.Logic.{Each}
use Rattle.rules.specs.Bounds.{head_of}
use Rattle.rules.specs.Rules.{meaning}
use Rattle.matches.specs.Lists.{look, formulas, under_atom, FactAtom}
use Rattle.sources.specs.Additions.{own_facts}
use Rattle.sources.specs.Applying.{ApplyAnswer}
use Rattle.sources.proofs.Applications.{filled_facts, filled_meaning, applied}
use Rattle.sources.proofs.addition.Addition.apply.Goals as goal

pub returns-in_err-values-clause-answer : goal.returns-in_err-values-clause-answer
returns-in_err-values-clause-answer g c =
    let p = err_from_is_err_and c.from_residual.result c.from_residual.ensures.1 in
    subst (λ o. ApplyAnswer (meaning c.args.rule.now) (look c.args.found.now) (g.S.FactSource.facts c.args.self.now.below) (own_facts c.args.self.now.own) o (own_facts c.args.self.now.own))
    (sym (p.1 ∙ ap Err p.2)) (c.in_err-values.ensures, refl)

pub hold-requires-clause-facts : goal.hold-requires-clause-facts
hold-requires-clause-facts g c =
    let r = meaning c.args.rule.now in
    let k = look c.in_ok-values.values in
    let a = c.in_ok-values.ensures in
    subst (Each FactAtom) (sym (c.filled-facts.ensures ∙ ap (map (under_atom k)) c.head-head.ensures.same))
    (filled_facts r (look c.args.found.now) k (g.S.FactSource.facts c.args.self.now.below) a.first a.filling (head_of c.args.rule.now.parts) refl c.head-head.ensures.kept.head c.sized.ensures.head
    (g.S.FactSource.few c.args.self.now.below).facts a.unsatisfied.matches)

pub returns-clause-answer : goal.returns-clause-answer
returns-clause-answer g c =
    let r = meaning c.args.rule.now in
    let k = look c.in_ok-values.values in
    applied r (look c.args.found.now) (g.S.FactSource.facts c.args.self.now.below) k (own_facts c.hold.new.self.own) c.in_ok-values.ensures
    (ap formulas (c.hold.ensures.own ∙ c.filled-facts.ensures ∙ ap (map (under_atom k)) c.head-head.ensures.same) ∙ filled_meaning k (head_of c.args.rule.now.parts))
