use Rattle.std.proofs.Common.{◌≡◌, false, sym, refl, ◌∙◌, subst}
use Rattle.rules.specs.Rules.{meaning}
use Rattle.matches.specs.Lists.{formulas}
use Rattle.reliances.specs.declared.sheet.Kind.TheVariants.{Positive}
use Rattle.reliances.specs.Unification.{shares?}
use Rattle.reliances.specs.Sheets.{Answered}
use Rattle.reliances.proofs.Gone.{none_shared}
use Rattle.reliances.proofs.Positive.{no_shared}
use Rattle.reliances.proofs.asking.ask_reliance.Goals.{then-may_meet_body, else-may_meet_body}
use Rattle.reliances.proofs.asking.ask_reliance.Goals as goal

pub returns-else-share_predicate : goal.returns-else-share_predicate
returns-else-share_predicate c =
    let A = c.args.first.now in
    let B = c.args.second.now in
    let none : shares? (meaning A).head (meaning B).body ≡ false =
    elim c.if-may_meet_body.branch [
      | then-may_meet_body w ↦
          (λ i. shares? (formulas (sym w.head.ensures.same i)) (formulas (sym w.body.ensures.same i))) ∙ sym w.share_predicate.ensures ∙ sym w.value-is ∙ c.if-share_predicate.false
      | else-may_meet_body w ↦ none_shared (meaning A).head (meaning B).body (sym c.may_meet_body.ensures ∙ w.if-may_meet_body.false)
    ] in
    subst (λ r. Answered r Positive (meaning A) (meaning B) c.args.sheet.now c.args.sheet.now) (sym c.if-share_predicate.false) (no_shared (meaning A) (meaning B) none, refl)
