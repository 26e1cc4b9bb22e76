use Rattle.std.proofs.Common.{refl, arith}
use Rattle.reliances.proofs.SearchSteps.{none_left, none_new, room_all}
use Rattle.reliances.proofs.search.see.Goals as goal

pub together-all-requires : goal.together-all-requires
together-all-requires g c =
    let q = c.args.asked.now in
    let way = c.args.way.now in
    room_all g.R.Relation.KIND q.first.now q.second.now q.rigid way.sigma.now way.old.now way.rest.now c.requires

pub returns-then-is_empty : goal.returns-then-is_empty
returns-then-is_empty g c =
    let q = c.args.asked.now in
    let way = c.args.way.now in (
      none_new g.R.Relation.KIND q.first.now q.second.now q.rigid q.flags way.sigma.now way.old.now way.rest.now q.count q.all
          (none_left way.rest.now c.is_empty.result c.is_empty.ensures c.if-is_empty.true) (omega (arith, c.if-way-asked.false)) c.requires,
      refl,
    )
