use Rattle.grades.proofs.Sets.{zero_at}
use Rattle.grades.proofs.Levels.{rising_first, rising_more, least_when_none_left, none_when_all_need_more, fewer_left}
use Rattle.grades.proofs.numbering.least_numbering.Goals as goal

pub loop-left-init : goal.loop-left-init
loop-left-init c = rising_first c.args.held c.args.at_most.now c.args.less_than.now _ zero_at

pub returns-then-is_empty : goal.returns-then-is_empty
returns-then-is_empty c =
    none_when_all_need_more _ _ _ _ _ _ c.loop-left.invariant _ c.above-next.ensures _ c.without.ensures c.loop-left-test.ensures.0 c.loop-left-test.ensures.1 c.if-is_empty.ensures

pub loop-left-smaller : goal.loop-left-smaller
loop-left-smaller c = fewer_left _ _ _ _ _ _ c.loop-left.invariant _ c.above-next.ensures _ c.without.ensures c.if-is_empty.ensures.0 c.if-is_empty.ensures.1

pub loop-left-preserved : goal.loop-left-preserved
loop-left-preserved c =
    rising_more _ _ _ _ _ _ c.loop-left.invariant _ c.above-next.ensures _ c.without.ensures c.if-is_empty.ensures.0 c.if-is_empty.ensures.1 _ c.give.ensures

pub returns : goal.returns
returns c = least_when_none_left _ _ _ _ _ _ c.loop-left.invariant c.loop-left-test.ensures
