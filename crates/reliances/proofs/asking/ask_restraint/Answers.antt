use Rattle.std.proofs.Common.{◌≡◌, false, sym, refl, ◌∙◌, subst}
use Rattle.rules.specs.Rules.{meaning}
use Rattle.reliances.specs.declared.sheet.Kind.TheVariants.{Restraint}
use Rattle.reliances.specs.Unification.{shares?}
use Rattle.reliances.specs.RestraintSearch.{shifted}
use Rattle.reliances.specs.Sheets.{Answered}
use Rattle.reliances.proofs.Gone.{none_open}
use Rattle.reliances.proofs.Restraint.{no_shared}
use Rattle.reliances.proofs.asking.ask_restraint.Goals.{then-may_meet_head, else-may_meet_head}
use Rattle.reliances.proofs.asking.ask_restraint.Goals as goal

pub returns-else-share_open : goal.returns-else-share_open
returns-else-share_open c =
    let A = c.args.first.now in
    let B = c.args.second.now in
    let none : shares? (meaning A).head (shifted (meaning B)) ≡ false =
    elim c.if-may_meet_head.branch [
      | then-may_meet_head w ↦ sym w.share_open.ensures ∙ sym w.value-is ∙ c.if-share_open.false
      | else-may_meet_head w ↦ none_open (meaning A).head (meaning B) (sym c.may_meet_head.ensures ∙ w.if-may_meet_head.false)
    ] in
    subst (λ r. Answered r Restraint (meaning A) (meaning B) c.args.sheet.now c.args.sheet.now) (sym c.if-share_open.false) (no_shared (meaning A) (meaning B) none, refl)
