use Rattle.std.proofs.Common.{get_or, ◌∙◌, subst, arith}
use Rattle.std.proofs.lemmas.List.{take_all}
use Rattle.rules.specs.Logic.{Each}
use Rattle.reliances.proofs.Nodes.{no_atom, each_taken}
use Rattle.reliances.proofs.SearchSteps.{room, room_all, taken, fewer, NotJoined, not_unified, not_followed, next_old, next_new, next_in, searched_old}
use Rattle.reliances.proofs.search.+searching.Goals.{branch-in-Some+else-search, branch-in_default}
use Rattle.reliances.proofs.search.+searching.Goals as goal

pub branch-without-rest-requires : goal.branch-without-rest-requires
branch-without-rest-requires g t c =
    let q = c.args.asked.now in
    let way = c.args.way.now in
    let few = room_all g.R.Relation.KIND q.first.now q.second.now q.rigid way.sigma.now way.old.now way.rest.now c.requires.node in
    (c.requires.next, omega (arith, few), c.new-others.ensures)

pub branch-search-requires : goal.branch-search-requires
branch-search-requires g t c κs within =
    let q = c.args.asked.now in
    let way = c.args.way.now in
    let i = c.args.i in
    let rest = c.without-rest.result.now in
    let node = taken g.R.Relation.KIND q.first.now q.second.now q.rigid q.flags way.sigma.now way.old.now way.rest.now rest i c.requires.next c.without-rest.ensures c.requires.node in
    let shorter = fewer g.R.Relation.KIND q.first.now q.second.now q.rigid q.flags way.sigma.now way.old.now way.rest.now rest i c.requires.next c.without-rest.ensures in (
      omega (arith, shorter, c.decreases),
      (
        within,
        (next_new g.R.Relation.KIND q.first.now q.second.now q.rigid q.flags way.sigma.now way.old.now rest (get_or way.rest.now i no_atom) node
            c.unify.new.tau c.head-head-items.result.now c.loop-head.head-index c.head-head-items.ensures.same c.loop-head-test.true c.in-Some.ensures),
      ),
    )

pub branch-loop-head-preserved : goal.branch-loop-head-preserved
branch-loop-head-preserved g t c =
    let q = c.args.asked.now in
    let way = c.args.way.now in
    let heads = c.head-head-items.result.now in
    let i = c.loop-head.head-index in
    let next = get_or way.rest.now c.args.i no_atom in
    let more = each_taken (NotJoined g.R.Relation.KIND q.first.now q.second.now q.rigid way.sigma.now way.old.now next) heads i no_atom c.loop-head-test.true c.loop-head.invariant.1 in
    elim c.match-unify.branch [
      | branch-in-Some+else-search w ↦
          let left = w.if-search.ensures in (
            w.sheet-is ∙ left.1 ∙ c.loop-head.invariant.0,
            more
                (not_followed g.R.Relation.KIND q.first.now q.second.now q.rigid q.flags way.sigma.now way.old.now next (get_or heads i no_atom) c.unify.new.tau
                w.in-Some.ensures left.0),
          )
      | branch-in_default w ↦ (
        w.sheet-is ∙ c.loop-head.invariant.0,
        more
            (not_unified g.R.Relation.KIND q.first.now q.second.now q.rigid q.flags way.sigma.now way.old.now next (get_or heads i no_atom) w.in_default.ensures),
      )
    ]

pub branch-together-old-requires : goal.branch-together-old-requires
branch-together-old-requires g t c =
    let q = c.args.asked.now in
    let way = c.args.way.now in
    let i = c.args.i in
    let rest = c.without-rest.result.now in
    let node = taken g.R.Relation.KIND q.first.now q.second.now q.rigid q.flags way.sigma.now way.old.now way.rest.now rest i c.requires.next c.without-rest.ensures c.requires.node in
    let few = room g.R.Relation.KIND q.first.now q.second.now q.rigid way.sigma.now way.old.now rest (get_or way.rest.now i no_atom) node in
    omega (arith, few)

pub branch-search-requires-2 : goal.branch-search-requires-2
branch-search-requires-2 g t c κs within =
    let q = c.args.asked.now in
    let way = c.args.way.now in
    let i = c.args.i in
    let rest = c.without-rest.result.now in
    let node = taken g.R.Relation.KIND q.first.now q.second.now q.rigid q.flags way.sigma.now way.old.now way.rest.now rest i c.requires.next c.without-rest.ensures c.requires.node in
    let shorter = fewer g.R.Relation.KIND q.first.now q.second.now q.rigid q.flags way.sigma.now way.old.now way.rest.now rest i c.requires.next c.without-rest.ensures in (
      omega (arith, shorter, c.decreases),
      (
        within,
        (next_old g.R.Relation.KIND q.first.now q.second.now q.rigid q.flags way.sigma.now way.old.now rest (get_or way.rest.now i no_atom) node c.deref.result.now
            (c.deref.ensures.0 ∙ c.together-old.ensures)),
      ),
    )

pub branch-returns : goal.branch-returns
branch-returns g t c =
    let q = c.args.asked.now in
    let way = c.args.way.now in
    let heads = c.head-head-items.result.now in
    let i = c.args.i in
    let rest = c.without-rest.result.now in
    let next = get_or way.rest.now i no_atom in
    let node = taken g.R.Relation.KIND q.first.now q.second.now q.rigid q.flags way.sigma.now way.old.now way.rest.now rest i c.requires.next c.without-rest.ensures c.requires.node in
    searched_old g.R.Relation.KIND q.first.now q.second.now q.rigid q.flags way.sigma.now c.search-2.result c.args.sheet.now c.loop-head.sheet c.search-2.new.sheet way.old.now c.deref.result.now heads next
    (next_in g.R.Relation.KIND q.first.now q.second.now q.rigid q.flags way.sigma.now way.old.now rest next node)
    c.head-head-items.ensures.same
    (subst (Each (NotJoined g.R.Relation.KIND q.first.now q.second.now q.rigid way.sigma.now way.old.now next)) (take_all c.loop-head.head-index heads c.loop-head-test.false) c.loop-head.invariant.1)
    (c.deref.ensures.0 ∙ c.together-old.ensures)
    c.loop-head.invariant.0
    c.search-2.ensures
