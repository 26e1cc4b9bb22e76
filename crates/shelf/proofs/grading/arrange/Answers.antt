use Rattle.std.proofs.Common.{◌≡◌, ◌-◌, suc, ◌<◌, length, drop, insert, sym, ap, subst, ◌∙◌, arith, IsSome, is_some}
use Rattle.std.proofs.lemmas.List.{get_or_default}
use Rattle.std.specs.List.{position_or_len}
use Rattle.shelf.specs.Slots.{slot, sorted}
use Rattle.shelf.specs.Grading.{rule_at, above?, Arranged}
use Rattle.shelf.proofs.Ordered.{none_arranged, more_arranged, place_within}
use Rattle.shelf.proofs.grading.arrange.Goals as goal

pub loop-i-init : goal.loop-i-init
loop-i-init c =
    let few : length c.new-order.result.items ≡ 0 = ap length c.new-order.ensures in
    record {
      arranged = subst (Arranged c.args.slots.now (sorted (drop 64 c.args.slots.now))) (sym c.new-order.ensures)
          (none_arranged c.args.slots.now 64 (omega (arith, c.told-slots)));
      room = omega (arith, few);
    }

pub insert-requires : goal.insert-requires
insert-requires c =
    let items = c.loop-i.order.items in
    let place : c.place-place.result ≡ position_or_len (above? c.args.slots.now c.number_at.result) items
    = c.place-place.ensures ∙ ap (position_or_len (above? c.args.slots.now c.number_at.result)) c.deref.ensures.0 in
    let within = place_within c.args.slots.now c.number_at.result items in
    (omega arith, (omega (arith, place, within), omega (arith, c.loop-i.invariant.room, c.loop-i-test.true)))

pub loop-i-preserved-then-is_some : goal.loop-i-preserved-then-is_some
loop-i-preserved-then-is_some c =
    let items = c.loop-i.order.items in
    let k = c.loop-i.i - 1 in
    let next : suc k ≡ c.loop-i.i = omega (arith, c.loop-i-test.true) in
    let place : c.place-place.result ≡ position_or_len (above? c.args.slots.now (rule_at c.args.slots.now k).number) items
    = c.place-place.ensures ∙ ap (position_or_len (above? c.args.slots.now c.number_at.result)) c.deref.ensures.0
    ∙ ap (λ n. position_or_len (above? c.args.slots.now n) items) c.number_at.ensures in
    let same = c.insert.ensures.items ∙ ap (λ n. insert items n k) place in
    let low : k < 64 = omega (arith, c.loop-i-test.true, c.loop-i.invariant.room) in
    let arranged : Arranged c.args.slots.now (sorted (drop (suc k) c.args.slots.now)) items = rw next c.loop-i.invariant.arranged in
    let some : IsSome (slot c.args.slots.now k)
    = ap is_some (get_or_default c.args.slots.now k _ _ (omega (arith, low, c.told-slots))) ∙ sym c.if-is_some.ensures in
    record {
      arranged = subst (Arranged c.args.slots.now (sorted (drop k c.args.slots.now))) (sym same)
          (more_arranged c.args.slots.now k items arranged some low (omega (arith, c.loop-i.invariant.room, c.loop-i-test.true)));
      room = omega (arith, c.insert.ensures.len, c.loop-i.invariant.room, c.loop-i-test.true);
    }
