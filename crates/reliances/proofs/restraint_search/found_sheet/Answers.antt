use Rattle.std.proofs.Common.{◌++◌, map, ◌∙◌, arith}
use Rattle.matches.specs.Lists.{look, under_atom}
use Rattle.reliances.proofs.Laying.{laid_one, laid_two}
use Rattle.reliances.proofs.restraint_search.found_sheet.Goals as goal

pub returns : goal.returns
returns c =
    let old = c.args.way.now.old.now in
    record {
      few = (let l = c.deref.ensures.1 in omega (arith, l, c.counted-first_len.ensures.count));
      fewer = (let l = c.deref-2.ensures.1 in omega (arith, l, c.counted-second_len.ensures.count));
      first_rule = c.first_slots-2.ensures;
      second_rule = c.second_slots-2.ensures;
      other = c.other_values.ensures;
      list =
          c.counted-first_len.ensures.atoms ∙ c.deref.ensures.0 ∙ laid_one _ c.push_each.new.into.items _ c.body.result.now c.new-before.ensures c.push_each.ensures
          ∙ (λ i. map (under_atom (look (c.second_slots.ensures i))) (c.body.ensures.same i));
      more =
          c.counted-second_len.ensures.atoms ∙ c.deref-2.ensures.0
          ∙ laid_two _ c.push_each-2.new.into.items _ c.body-2.result.now c.new-extra.ensures c.push_each-2.ensures c.push_each-3.new.into.items _ old c.push_each-3.ensures
          ∙ (λ i. map (under_atom (look (c.first_slots.ensures i))) (c.body-2.ensures.same i) ++ map (under_atom (look (c.wide_slots.ensures i))) old);
    }
