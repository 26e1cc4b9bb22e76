use Rattle.std.proofs.Common.{◌+◌, ◌∷◌, [], get_or, take, subst, sym, arith}
use Rattle.std.proofs.Math.ListN.{drop}
use Rattle.std.proofs.lemmas.List.{take_all, take-append-drop}
use Rattle.rules.specs.declared.Term.TheVariants.{Constant}
use Rattle.sources.specs.Numbering.{Given, GivenAnswer}
use Rattle.sources.proofs.Listed.{in_at}
use Rattle.sources.proofs.Knowing.{take_more}
use Rattle.sources.proofs.NewNulls.{given_none, given_next, large_next}
use Rattle.sources.proofs.numbering.number_all.Goals as goal

pub loop-term-init : goal.loop-term-init
loop-term-init c = record { long = omega arith; wide = omega arith; given = given_none c.args.from c.args.known.now c.args.values.now c.requires.small }

pub number-requires-clause-plain : goal.number-requires-clause-plain
number-requires-clause-plain c = c.requires.plain _ (in_at (Constant 0) c.args.terms.now c.loop-term.term-index (omega arith))

pub number-requires-clause-small : goal.number-requires-clause-small
number-requires-clause-small c = c.loop-term.invariant.given.small

pub returns-in_err-next : goal.returns-in_err-next
returns-in_err-next c =
    let ts = c.args.terms.now in
    let i = c.loop-term.term-index in
    subst (λ o. GivenAnswer ts c.args.from c.args.known.now c.args.values.now o c.number.new.known c.number.new.values) (sym c.from_residual.ensures)
    (large_next (take i ts) (get_or ts i (Constant 0) ∷ []) c.args.from c.args.known.now c.args.values.now c.loop-term.next c.loop-term.known c.loop-term.values c.loop-term.invariant.given
    (take (i + 1) ts) (drop (i + 1) ts) ts (take_more (Constant 0) ts i (omega arith)) (sym (take-append-drop (i + 1) ts)) c.in_err-next.ensures)

pub loop-term-preserved : goal.loop-term-preserved
loop-term-preserved c =
    let ts = c.args.terms.now in
    let i = c.loop-term.term-index in
    record {
      long = omega arith;
      wide = omega arith;
      given =
          given_next (take i ts) (get_or ts i (Constant 0) ∷ []) c.args.from c.args.known.now c.args.values.now c.loop-term.next c.loop-term.known c.loop-term.values c.loop-term.invariant.given
          (take (i + 1) ts) (take_more (Constant 0) ts i (omega arith)) _ c.number.new.known c.number.new.values c.in_ok-next.ensures;
    }

pub returns : goal.returns
returns c =
    subst (λ ts. Given ts c.args.from c.args.known.now c.args.values.now c.loop-term.next c.loop-term.known c.loop-term.values)
    (take_all c.loop-term.term-index c.args.terms.now (omega arith)) c.loop-term.invariant.given
