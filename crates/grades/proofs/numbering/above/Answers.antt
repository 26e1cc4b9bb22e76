use Rattle.grades.proofs.Levels.{reaching_first, above_when_none_new, found_grows, reaching_more}
use Rattle.grades.proofs.numbering.above.Goals as goal

pub loop-set-init : goal.loop-set-init
loop-set-init c = reaching_first _ _ _ _ _ _ c.new-found.ensures c.after.ensures c.within-new.ensures

pub loop-set-smaller : goal.loop-set-smaller
loop-set-smaller c = found_grows _ _ _ _ _ c.loop-set.invariant _ c.with-found.ensures c.loop-set-test.ensures.0 c.loop-set-test.ensures.1

pub loop-set-preserved : goal.loop-set-preserved
loop-set-preserved c =
    reaching_more _ _ _ _ _ c.loop-set.invariant _ c.with-found.ensures _ _ _ c.after-in-loop-set.ensures c.within.ensures c.without-new.ensures

pub returns : goal.returns
returns c = above_when_none_new _ _ _ _ _ c.loop-set.invariant c.loop-set-test.ensures
