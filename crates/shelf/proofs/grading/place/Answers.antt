use Rattle.std.proofs.Common.{length, sym, arith, below_more}
use Rattle.std.proofs.lemmas.Bool.{lt-ltb, le-ltb}
use Rattle.std.proofs.lemmas.List.Sums.{position_or_len_is}
use Rattle.shelf.specs.Grading.{above?}
use Rattle.shelf.proofs.grading.place.Goals as goal

pub returns-then-number-number_at : goal.returns-then-number-number_at
returns-then-number-number_at c =
    sym (position_or_len_is (above? c.args.slots.now c.args.number) c.args.order.now c.loop-place.place 0 (omega arith) c.loop-place.invariant
    (λ l. rw (sym c.number_at.ensures) (lt-ltb c.args.number c.number_at.result c.if-number-number_at.true)))

pub returns : goal.returns
returns c =
    sym (position_or_len_is (above? c.args.slots.now c.args.number) c.args.order.now (length c.args.order.now) 0 (omega arith)
    (λ k l. c.loop-place.invariant k (omega (arith, c.loop-place-test.false))) (λ l. absurd (omega arith)))

pub loop-place-preserved : goal.loop-place-preserved
loop-place-preserved c =
    below_more _ _ c.loop-place.invariant (rw (sym c.number_at.ensures) (le-ltb c.args.number c.number_at.result c.if-number-number_at.false))
