use Rattle.std.proofs.Common.{◌≡◌, ℕ, false, None, sym, refl, ◌∙◌, subst, arith}
use Rattle.std.proofs.lemmas.Bool.{ne_eqb}
use Rattle.std.proofs.lemmas.List.{get_or_default}
use Rattle.shelf.specs.Slots.{slot, slot_has?}
use Rattle.shelf.proofs.Slots.{one_more}
use Rattle.shelf.proofs.shelf.find_rule.Goals.{in-Some+else-held-number, in_default}
use Rattle.shelf.proofs.shelf.find_rule.Goals as goal

pub loop-slot-preserved : goal.loop-slot-preserved
loop-slot-preserved c =
    let P : ℕ → Type 0 = λ i. slot_has? c.args.number (slot c.args.slots.now i) ≡ false in
    let at = get_or_default c.args.slots.now c.loop-slot.slot-index None c.slot-item.result (omega (arith, c.told-slots, c.loop-slot-test.true)) in
    let here : slot_has? c.args.number (slot c.args.slots.now c.loop-slot.slot-index) ≡ false =
    elim c.match-slot.branch [
      | in-Some+else-held-number w ↦ subst (λ o. slot_has? c.args.number o ≡ false) (sym (at ∙ w.in-Some.is)) (ne_eqb _ _ w.if-held-number.false)
      | in_default w ↦ subst (λ o. slot_has? c.args.number o ≡ false) (sym (at ∙ w.in_default.is)) refl
    ] in
    one_more P c.loop-slot.slot-index c.loop-slot.invariant here
