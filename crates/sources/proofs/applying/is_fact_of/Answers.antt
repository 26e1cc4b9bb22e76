use Rattle.std.proofs.Common.{refl, subst, arith}
use Rattle.std.proofs.lemmas.Bool.{both_ways}
use Rattle.rules.specs.Logic.{In, formula_of}
use Rattle.sources.proofs.Listed.{in_nth}
use Rattle.sources.proofs.Standing.{nth_same}
use Rattle.sources.proofs.Applications.{none_more, none_in}
use Rattle.sources.proofs.applying.is_fact_of.Goals.{in-Ok+else-eq, in_default}
use Rattle.sources.proofs.applying.is_fact_of.Goals as goal

pub returns-then-eq : goal.returns-then-eq
returns-then-eq g c =
    let F = g.S.FactSource.facts c.args.source.now in
    (λ e. subst (λ f. In f F) (c.eq.ensures.decides.0 c.if-eq.true) (in_nth F c.loop-index.index _ c.in-Ok.ensures), λ m. refl)

pub loop-index-preserved : goal.loop-index-preserved
loop-index-preserved g c =
    let F = g.S.FactSource.facts c.args.source.now in
    none_more F c.loop-index.index (formula_of c.args.atom.now) c.loop-index.invariant
    (λ n. elim c.match-fact.branch [
      | in-Ok+else-eq w ↦ both_ways w.eq.result w.if-eq.false (w.eq.ensures.decides.1 (nth_same F c.loop-index.index _ _ w.in-Ok.ensures n))
      | in_default w ↦ let l = w.in_default.ensures.0 in let m = n.0 in absurd (omega arith)
    ])

pub returns : goal.returns
returns g c =
    none_in (g.S.FactSource.facts c.args.source.now) c.loop-index.index (formula_of c.args.atom.now) c.loop-index.invariant (omega arith)
