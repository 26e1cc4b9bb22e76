use Rattle.std.proofs.Common.{refl, subst, ◌∙◌}
use Rattle.rules.specs.Logic.{In}
use Rattle.reliances.specs.declared.sheet.Kind.TheVariants.{Positive, Restraint}
use Rattle.shelf.proofs.Graded.{none_of_rules, least_numbering, grade_of, grade_at, the_list, rule_pairs}
use Rattle.shelf.proofs.shelf.Shelf.grade.Goals as goal

pub returns-in_default : goal.returns-in_default
returns-in_default c =
    (refl, none_of_rules _ _ _ _ c.held_slots-held.ensures c.related-reliances.ensures c.related-restraints.ensures c.in_default.ensures, refl)

pub put_numbers-requires-clause-within : goal.put_numbers-requires-clause-within
put_numbers-requires-clause-within c = λ x h. c.arrange-order.ensures.within x (subst (In x) c.deref.ensures.0 h)

pub returns : goal.returns
returns c =
    let slots = c.args.self.now.slots in
    let apart = c.args.self.now.apart in
    let numbers = c.in-Some.numbers in
    record {
      grade = grade_of slots apart numbers;
      least = least_numbering slots _ _ _ c.held_slots-held.ensures c.related-reliances.ensures c.related-restraints.ensures numbers c.in-Some.ensures
          (grade_of slots apart numbers) (grade_at slots apart numbers);
      list = c.put_numbers.ensures ∙ rw c.deref.ensures.0 (the_list slots apart numbers c.arrange-order.result.items c.args.grades.now c.arrange-order.ensures);
      reliances = rule_pairs slots apart Positive _ c.related-reliances.ensures _ c.count.ensures;
      restraints = rule_pairs slots apart Restraint _ c.related-restraints.ensures _ c.count-2.ensures;
    }
