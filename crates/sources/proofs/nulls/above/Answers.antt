use Rattle.std.proofs.Common.{◌+◌, take, subst, sym, arith}
use Rattle.std.proofs.lemmas.List.{take_all}
use Rattle.rules.specs.declared.Term.TheVariants.{Constant}
use Rattle.sources.specs.Numbering.{LeastAbove}
use Rattle.sources.proofs.NewNulls.{least_none, least_next, least_other, least_max}
use Rattle.sources.proofs.nulls.above.Goals.{in-Null, in_default}
use Rattle.sources.proofs.nulls.above.Goals as goal

pub loop-term-init : goal.loop-term-init
loop-term-init c = record { least = least_none c.args.from; small = c.requires }

pub loop-term-preserved : goal.loop-term-preserved
loop-term-preserved c =
    let ts = c.args.terms.now in
    let i = c.loop-term.term-index in
    elim c.match-term.branch [
      | in-Null w ↦
          record {
            least = least_next ts i (Constant 0) c.args.from c.loop-term.next c.match-term.next (omega arith) c.loop-term.invariant.least (least_max _ w.in-Null.number c.loop-term.next c.match-term.next w.in-Null.is (omega arith));
            small = let s = c.loop-term.invariant.small in omega arith;
          }
      | in_default w ↦
          record {
            least =
                subst (LeastAbove (take (i + 1) ts) c.args.from) (sym w.next-is)
                (least_next ts i (Constant 0) c.args.from c.loop-term.next c.loop-term.next (omega arith) c.loop-term.invariant.least (least_other _ c.loop-term.next (λ m e. w.in_default.not-Null m (sym e))));
            small = let s = c.loop-term.invariant.small in omega arith;
          }
    ]

pub returns-clause-least : goal.returns-clause-least
returns-clause-least c = subst (λ ts. LeastAbove ts c.args.from c.loop-term.next) (take_all c.loop-term.term-index c.args.terms.now (omega arith)) c.loop-term.invariant.least
