use Rattle.std.proofs.Common.{refl, subst, sym, arith}
use Rattle.std.proofs.lemmas.Bool.{both_ways}
use Rattle.rules.specs.Logic.{In}
use Rattle.rules.proofs.Membership.{decides_false}
use Rattle.matches.specs.Lists.{look}
use Rattle.sources.proofs.Applications.{under_more, under_all, under_at}
use Rattle.sources.proofs.applying.are_facts_of.Goals as goal

pub returns-then-not-is_fact_of : goal.returns-then-not-is_fact_of
returns-then-not-is_fact_of g c =
    let F = g.S.FactSource.facts c.args.source.now in
    decides_false (λ each.
    both_ways c.is_fact_of.result c.if-not-is_fact_of.true
    (c.is_fact_of.ensures.1 (subst (λ f. In f F) (sym c.atom_under.ensures.meant) (under_at F c.args.atoms.now (look c.args.values.now) c.loop-atom.atom-index (omega arith) each))))

pub loop-atom-preserved : goal.loop-atom-preserved
loop-atom-preserved g c =
    let F = g.S.FactSource.facts c.args.source.now in
    under_more F c.args.atoms.now (look c.args.values.now) c.loop-atom.atom-index c.loop-atom.invariant
    (subst (λ f. In f F) c.atom_under.ensures.meant (c.is_fact_of.ensures.0 c.if-not-is_fact_of.false))

pub returns : goal.returns
returns g c = (
  λ e. under_all (g.S.FactSource.facts c.args.source.now) c.args.atoms.now (look c.args.values.now) (λ k l. c.loop-atom.invariant k (omega arith)),
  λ each. refl,
)
