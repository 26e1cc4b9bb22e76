use Rattle.std.proofs.Common.{◌++◌, map, ◌∙◌}
use Rattle.matches.specs.Lists.{look, under_atom}
use Rattle.reliances.proofs.Laying.{laid_four}
use Rattle.reliances.proofs.restraint_search.later.Goals as goal

pub returns : goal.returns
returns c =
    let old = c.args.old.now in
    let second = c.second_slots-second.ensures in
    laid_four _ c.push_each.new.into.items _ c.body.result.now c.new-all.ensures c.push_each.ensures c.push_each-2.new.into.items _ c.head.result.now c.push_each-2.ensures
    c.push_each-3.new.into.items c.push_each-4.new.into.items _ _ c.body-2.result.now old c.push_each-3.ensures c.push_each-4.ensures
    ∙ (λ i. (map (under_atom (look (second i))) (c.body.ensures.same i) ++ map (under_atom (look (second i))) (c.head.ensures.same i))
    ++ (map (under_atom (look (c.first_slots.ensures i))) (c.body-2.ensures.same i) ++ map (under_atom (look (c.wide_slots.ensures i))) old))
