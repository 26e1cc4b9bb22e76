use Rattle.std.proofs.Common.{false, refl}
use Rattle.reliances.proofs.SearchSteps.{begun, answered}
use Rattle.reliances.proofs.asking.begin.Goals as goal

pub is_hopeless-requires-clause-node : goal.is_hopeless-requires-clause-node
is_hopeless-requires-clause-node g c =
    let q = c.args.asked.now in
    begun g.R.Relation.KIND q.first.now q.second.now q.rigid q.flags c.start_slots.result c.args.atoms.now c.start_slots.ensures c.requires.all c.requires.small

pub returns-then-is_hopeless : goal.returns-then-is_hopeless
returns-then-is_hopeless g c =
    let q = c.args.asked.now in
    answered g.R.Relation.KIND q.first.now q.second.now q.rigid q.flags false c.start_slots.result c.args.sheet.now c.args.sheet.now c.start_slots.ensures (c.is_hopeless.ensures c.if-is_hopeless.true, refl)

pub search-requires : goal.search-requires
search-requires g c =
    let q = c.args.asked.now in
    begun g.R.Relation.KIND q.first.now q.second.now q.rigid q.flags c.start_slots.result c.args.atoms.now c.start_slots.ensures c.requires.all c.requires.small

pub returns : goal.returns
returns g c =
    let q = c.args.asked.now in
    answered g.R.Relation.KIND q.first.now q.second.now q.rigid q.flags c.search.result c.start_slots.result c.args.sheet.now c.search.new.sheet c.start_slots.ensures c.search.ensures
