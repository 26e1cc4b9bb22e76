use Rattle.std.proofs.Common.{◌++◌, map, ◌∙◌}
use Rattle.rules.specs.Bounds.{head_of}
use Rattle.matches.specs.Lists.{look, under_atom}
use Rattle.reliances.specs.Unification.{part}
use Rattle.reliances.proofs.Laying.{laid_two}
use Rattle.reliances.proofs.reliance_search.laid.Goals as goal

pub returns : goal.returns
returns c =
    let all = c.args.all.now in
    let h = c.first_slots.ensures in
    c.push_each-3.ensures
    ∙ (λ i. laid_two _ c.push_each.new.into.items _ c.body.result.now c.new-list.ensures c.push_each.ensures c.push_each-2.new.into.items _ all c.push_each-2.ensures i
    ++ map (under_atom (look (h i))) (c.head.ensures.same i))
    ∙ (λ i. (map (under_atom (look (h i))) (c.body.ensures.same i) ++ map (under_atom (look (c.second_slots.ensures i))) all) ++ map (under_atom (look (part c.args.sigma.now 0))) (head_of c.args.asked.now.first.now.parts))
