use Rattle.std.proofs.Common.{◌++◌, ◌-◌, [], length, take, sym, ap, ◌∙◌, subst, arith}
use Rattle.std.proofs.lemmas.List.{append-nil}
use Rattle.reliances.specs.declared.sheet.Kind.TheVariants.{Restraint}
use Rattle.reliances.specs.Searching.{OnWay, Deserted}
use Rattle.reliances.proofs.RestraintNodes.{later_part}
use Rattle.reliances.proofs.SearchSteps.{said_no, none_left, few_shifted, all_old}
use Rattle.reliances.proofs.restraint_search.RestrainsRelation.look.Goals as goal

pub settle-requires-clause-few : goal.settle-requires-clause-few
settle-requires-clause-few c = let few = few_shifted c.args.asked.now.second.now in omega (arith, few, c.args.asked.now.all, c.requires.new)

pub settle-requires-clause-node : goal.settle-requires-clause-node
settle-requires-clause-node c =
    let q = c.args.asked.now in
    let way = c.args.way.now in
    subst (λ z. OnWay Restraint q.first.now q.second.now q.rigid way.sigma.now z []) (sym c.requires.all)
    (all_old Restraint q.first.now q.second.now q.rigid q.flags way.sigma.now way.old.now way.rest.now c.requires.node)

pub returns-then-is_empty : goal.returns-then-is_empty
returns-then-is_empty c =
    let q = c.args.asked.now in
    let way = c.args.way.now in
    let left = said_no Restraint q.first.now q.second.now q.rigid way.sigma.now c.args.all.now c.args.sheet.now c.settle.new.sheet c.settle.result c.if-settle.false c.settle.ensures in
    let same = c.requires.all ∙ ap (λ z. way.old.now ++ z) (none_left way.rest.now c.is_empty.result c.is_empty.ensures c.if-is_empty.true) ∙ append-nil way.old.now in
    (subst (Deserted Restraint q.first.now q.second.now q.rigid way.sigma.now) same left.0, left.1)

pub later-list-requires : goal.later-list-requires
later-list-requires c = let few = few_shifted c.args.asked.now.second.now in omega (arith, few, c.args.asked.now.all, c.requires.new)

pub is_shut-requires-clause-node : goal.is_shut-requires-clause-node
is_shut-requires-clause-node c = c.requires.node

pub is_shut-requires-clause-list : goal.is_shut-requires-clause-list
is_shut-requires-clause-list c =
    let q = c.args.asked.now in
    let way = c.args.way.now in
    (λ i. take (c.len.ensures.value i - length way.rest.now) (c.deref.ensures.0 i))
    ∙ later_part q.first.now q.second.now way.sigma.now way.old.now c.args.all.now way.rest.now c.later-list.result.items c.requires.all c.later-list.ensures

pub returns-then-is_shut : goal.returns-then-is_shut
returns-then-is_shut c =
    let q = c.args.asked.now in
    let left = said_no Restraint q.first.now q.second.now q.rigid c.args.way.now.sigma.now c.args.all.now c.args.sheet.now c.settle.new.sheet c.settle.result c.if-settle.false c.settle.ensures in
    (c.is_shut.ensures c.if-is_shut.true, left.1)
