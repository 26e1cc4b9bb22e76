use Rattle.std.proofs.Common.{ap, ◌∙◌}
use Rattle.std.proofs.lemmas.Bool.Decides.{Decides-at}
use Rattle.rules.specs.Rules.{meaning}
use Rattle.matches.specs.Lists.{look, formulas}
use Rattle.matches.specs.Matching.{matches?}
use Rattle.matches.proofs.Literal.{decides_matches}
use Rattle.matches.proofs.trigger.Trigger.is_match.Goals as goal

pub returns : goal.returns
returns c =
    let h = look c.args.self.values.now in
    let F = formulas c.args.self.facts.now in
    Decides-at _ _ (c.are_held.ensures ∙ ap (λ xs. matches? (formulas xs) h F) c.body.ensures.same) (decides_matches (meaning c.args.self.rule.now).body h F)
