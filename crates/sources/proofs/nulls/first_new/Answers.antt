use Rattle.sources.proofs.NewNulls.{least_fact, first_of}
use Rattle.std.proofs.Common.{subst, sym, arith}
use Rattle.std.proofs.lemmas.List.{take_all}
use Rattle.rules.specs.Logic.{formula_of, terms_of}
use Rattle.sources.specs.Numbering.{LeastAbove}
use Rattle.sources.proofs.nulls.first_new.Goals.{in-Ok, in_default}
use Rattle.sources.proofs.nulls.first_new.Goals as goal

pub loop-index-preserved : goal.loop-index-preserved
loop-index-preserved g c =
    elim c.match-fact.branch [
      | in-Ok w ↦
          record {
            least =
                least_fact (g.S.FactSource.facts c.args.source.now) c.loop-index.index (formula_of w.in-Ok.fact) w.args-in-Ok.result.now c.loop-index.next c.match-fact.next w.in-Ok.ensures w.args-in-Ok.ensures
                c.loop-index.invariant.least (subst (LeastAbove w.args-in-Ok.result.now c.loop-index.next) (sym w.next-is) w.above-next.ensures.least);
            small = let s = w.above-next.ensures.small in omega arith;
          }
      | in_default w ↦ let l = w.in_default.ensures.0 in absurd (omega arith)
    ]

pub returns-clause-first : goal.returns-clause-first
returns-clause-first g c =
    let F = g.S.FactSource.facts c.args.source.now in
    first_of F c.loop-index.next (subst (λ G. LeastAbove (terms_of G) 0 c.loop-index.next) (take_all c.loop-index.index F (omega arith)) c.loop-index.invariant.least)
