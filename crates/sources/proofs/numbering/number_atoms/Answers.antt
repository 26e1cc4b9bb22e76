use Rattle.std.proofs.Common.{◌≡◌, ◌+◌, ◌<◌, ◌++◌, length, get_or, take, subst, sym, ap, ◌∙◌, arith}
use Rattle.std.proofs.Math.ListN.{drop}
use Rattle.std.proofs.lemmas.List.{take_all, length-map}
use Rattle.rules.specs.Bounds.{Plain}
use Rattle.rules.specs.Logic.{Formula, formula_of, terms_of}
use Rattle.matches.specs.Lists.{formulas}
use Rattle.matches.proofs.Steps.{no_atom}
use Rattle.sources.specs.Numbering.{Given, GivenAnswer}
use Rattle.sources.proofs.Knowing.{each_at, formula_at}
use Rattle.sources.proofs.NewNulls.{terms_next, terms_whole, given_none, given_next, large_next}
use Rattle.sources.proofs.numbering.number_atoms.Goals as goal

pub loop-atom-init : goal.loop-atom-init
loop-atom-init c = record { long = omega arith; wide = omega arith; given = given_none c.args.from c.args.known.now c.args.values.now c.requires.small }

pub number_all-requires-clause-plain : goal.number_all-requires-clause-plain
number_all-requires-clause-plain c =
    each_at Plain c.args.atoms.now c.loop-atom.atom-index no_atom c.args-in-loop-atom.result.now (omega arith) c.args-in-loop-atom.ensures c.requires.plain

pub number_all-requires-clause-small : goal.number_all-requires-clause-small
number_all-requires-clause-small c = c.loop-atom.invariant.given.small

pub returns-in_err-next : goal.returns-in_err-next
returns-in_err-next c =
    let F = formulas c.args.atoms.now in
    let i = c.loop-atom.atom-index in
    let l : i < length F = simp length-map (omega arith) in
    let same : (get_or F i (formula_of no_atom)).terms ≡ c.args-in-loop-atom.result.now = ap (λ (f : Formula). f.terms) (formula_at c.args.atoms.now i no_atom (omega arith)) ∙ sym c.args-in-loop-atom.ensures in
    subst (λ o. GivenAnswer (terms_of F) c.args.from c.args.known.now c.args.values.now o c.number_all.new.known c.number_all.new.values) (sym c.from_residual.ensures)
    (large_next (terms_of (take i F)) c.args-in-loop-atom.result.now c.args.from c.args.known.now c.args.values.now c.loop-atom.next c.loop-atom.known c.loop-atom.values c.loop-atom.invariant.given
    (terms_of (take (i + 1) F)) (terms_of (drop (i + 1) F)) (terms_of F) (terms_next F i (formula_of no_atom) l ∙ ap (λ z. terms_of (take i F) ++ z) same) (terms_whole F (i + 1)) c.in_err-next.ensures)

pub loop-atom-preserved : goal.loop-atom-preserved
loop-atom-preserved c =
    let F = formulas c.args.atoms.now in
    let i = c.loop-atom.atom-index in
    let l : i < length F = simp length-map (omega arith) in
    let same : (get_or F i (formula_of no_atom)).terms ≡ c.args-in-loop-atom.result.now = ap (λ (f : Formula). f.terms) (formula_at c.args.atoms.now i no_atom (omega arith)) ∙ sym c.args-in-loop-atom.ensures in
    record {
      long = omega arith;
      wide = omega arith;
      given =
          given_next (terms_of (take i F)) c.args-in-loop-atom.result.now c.args.from c.args.known.now c.args.values.now c.loop-atom.next c.loop-atom.known c.loop-atom.values c.loop-atom.invariant.given
          (terms_of (take (i + 1) F)) (terms_next F i (formula_of no_atom) l ∙ ap (λ z. terms_of (take i F) ++ z) same) _ c.number_all.new.known c.number_all.new.values c.in_ok-next.ensures;
    }

pub returns : goal.returns
returns c =
    let F = formulas c.args.atoms.now in
    subst (λ G. Given (terms_of G) c.args.from c.args.known.now c.args.values.now c.loop-atom.next c.loop-atom.known c.loop-atom.values)
    (take_all c.loop-atom.atom-index F (simp length-map (omega arith))) c.loop-atom.invariant.given
