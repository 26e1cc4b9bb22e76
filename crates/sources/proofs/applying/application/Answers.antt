use Rattle.std.proofs.Common.{length, ap, subst, sym, refl, arith}
use Rattle.std.proofs.lemmas.Bool.{both_ways}
use Rattle.std.proofs.lemmas.List.{length-map}
use Rattle.rules.specs.Logic.{In, Each, formula_of}
use Rattle.rules.specs.Matches.{under}
use Rattle.matches.specs.Lists.{look, formulas}
use Rattle.sources.specs.Applying.{Declined}
use Rattle.sources.proofs.applying.application.Goals as goal

pub returns-then-not-are_facts_of : goal.returns-then-not-are_facts_of
returns-then-not-are_facts_of g c =
    let F = g.S.FactSource.facts c.args.source.now in
    Declined.no_match
    (λ m. both_ways c.are_facts_of.result c.if-not-are_facts_of.true (c.are_facts_of.ensures.1 (subst (Each (λ a. In (under (look c.args.found.now) a) F)) (sym (ap formulas c.body.ensures.same)) m)))
    refl

pub returns-then-is_satisfied : goal.returns-then-is_satisfied
returns-then-is_satisfied g c =
    let F = g.S.FactSource.facts c.args.source.now in
    Declined.satisfied
    (subst (Each (λ a. In (under (look c.args.found.now) a) F)) (ap formulas c.body.ensures.same) (c.are_facts_of.ensures.0 c.if-not-are_facts_of.false))
    (c.is_satisfied.ensures.decides.0 c.if-is_satisfied.true) refl

pub returns-in_default : goal.returns-in_default
returns-in_default g c =
    let F = g.S.FactSource.facts c.args.source.now in
    Declined.null_too_large
    (record {
      matches = subst (Each (λ a. In (under (look c.args.found.now) a) F)) (ap formulas c.body.ensures.same) (c.are_facts_of.ensures.0 c.if-not-are_facts_of.false);
      missing = λ s. both_ways c.is_satisfied.result c.if-is_satisfied.false (c.is_satisfied.ensures.decides.1 s);
    })
    c.first_new.result c.first_new.ensures.first c.in_default.ensures refl

pub returns-then-count-head-gt-MOST : goal.returns-then-count-head-gt-MOST
returns-then-count-head-gt-MOST g c =
    let F = g.S.FactSource.facts c.args.source.now in
    Declined.too_many
    (record {
      matches = subst (Each (λ a. In (under (look c.args.found.now) a) F)) (ap formulas c.body.ensures.same) (c.are_facts_of.ensures.0 c.if-not-are_facts_of.false);
      missing = λ s. both_ways c.is_satisfied.result c.if-is_satisfied.false (c.is_satisfied.ensures.decides.1 s);
    })
    c.first_new.result c.first_new.ensures.first c.in-Some.ensures.0
    (let n = length-map c.head.result.now formula_of in let m = ap length (ap formulas c.head.ensures.same) in omega arith) refl

pub returns : goal.returns
returns g c =
    let F = g.S.FactSource.facts c.args.source.now in
    record {
      unsatisfied =
          record {
            matches = subst (Each (λ a. In (under (look c.args.found.now) a) F)) (ap formulas c.body.ensures.same) (c.are_facts_of.ensures.0 c.if-not-are_facts_of.false);
            missing = λ s. both_ways c.is_satisfied.result c.if-is_satisfied.false (c.is_satisfied.ensures.decides.1 s);
          };
      first = c.first_new.result;
      new = c.first_new.ensures.first;
      fit = c.in-Some.ensures.0;
      few = let n = length-map c.head.result.now formula_of in let m = ap length (ap formulas c.head.ensures.same) in omega arith;
      filling = c.in-Some.ensures.1;
    }
