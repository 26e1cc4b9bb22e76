use Rattle.std.proofs.Common.{◌≡◌, ◌+◌, suc, get_or, arith}
use Rattle.reliances.proofs.Nodes.{get_d_in}
use Rattle.shelf.proofs.Ordered.{put_more}
use Rattle.shelf.proofs.grading.put_numbers.Goals as goal

pub bounds-numbers-slot : goal.bounds-numbers-slot
bounds-numbers-slot c = c.requires.within _ (get_d_in c.args.order.now c.loop-place.place 0 c.loop-place-test.true)

pub loop-place-preserved : goal.loop-place-preserved
loop-place-preserved c =
    let next : c.loop-place.place + 1 ≡ suc c.loop-place.place = omega arith in
    rw (next, c.loop-place.invariant)
    (put_more (λ i. get_or c.args.numbers.now i 0) c.args.order.now c.args.grades.now c.loop-place.place c.loop-place-test.true
    (omega (arith, c.requires.few, c.loop-place-test.true, c.told-grades)))
