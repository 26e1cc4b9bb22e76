use Rattle.std.proofs.Common.{◌<◌, ◌+◌, length, ap, subst, sym, refl}
use Rattle.rules.specs.Bounds.{RuleAtom, flags}
use Rattle.rules.specs.Logic.{Each, terms_of}
use Rattle.rules.specs.Rules.{meaning}
use Rattle.matches.specs.Lists.{look, formulas}
use Rattle.sources.specs.declared.matching.TheConstants.{NOTHING_GIVEN}
use Rattle.sources.specs.Searching.{KnownWith}
use Rattle.sources.specs.Applying.{new_variables}
use Rattle.sources.specs.Numbering.{Given, FillingAnswer}
use Rattle.sources.proofs.Ways.{plain_terms, none_set}
use Rattle.sources.proofs.NewNulls.{filled_all, too_large}
use Rattle.sources.proofs.numbering.with_nulls.Goals as goal

pub known_with-known-requires : goal.known_with-known-requires
known_with-known-requires c = plain_terms c.body.result.now (subst (Each RuleAtom) (sym c.body.ensures.same) c.body.ensures.kept.body)

pub number_atoms-requires-clause-plain : goal.number_atoms-requires-clause-plain
number_atoms-requires-clause-plain c = plain_terms c.head.result.now (subst (Each RuleAtom) (sym c.head.ensures.same) c.head.ensures.kept.head)

pub returns-in_err-number_atoms : goal.returns-in_err-number_atoms
returns-in_err-number_atoms c =
    let known = c.known_with-known.result in
    subst (FillingAnswer (meaning c.args.rule.now) (look c.args.found.now) c.args.first) (sym c.from_residual.ensures)
    (too_large (meaning c.args.rule.now) NOTHING_GIVEN known (none_set NOTHING_GIVEN refl) (subst (λ atoms. KnownWith NOTHING_GIVEN (terms_of atoms) known) (ap formulas c.body.ensures.same) c.known_with-known.ensures)
    c.args.first c.args.found.now c.requires
    (subst (λ atoms. 65536 < c.args.first + length (new_variables (flags known) (terms_of (formulas atoms)))) c.head.ensures.same c.in_err-number_atoms.ensures))

pub returns : goal.returns
returns c =
    let known = c.known_with-known.result in
    filled_all (meaning c.args.rule.now) NOTHING_GIVEN known (none_set NOTHING_GIVEN refl) (subst (λ atoms. KnownWith NOTHING_GIVEN (terms_of atoms) known) (ap formulas c.body.ensures.same) c.known_with-known.ensures)
    c.args.first c.args.found.now c.in_ok-number_atoms.field-0 c.number_atoms.new.known c.number_atoms.new.values
    (subst (λ atoms. Given (terms_of (formulas atoms)) c.args.first known c.args.found.now c.in_ok-number_atoms.field-0 c.number_atoms.new.known c.number_atoms.new.values) c.head.ensures.same c.in_ok-number_atoms.ensures)
