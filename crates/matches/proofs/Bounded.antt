-- What a rule's meaning keeps: its variables are below 12, it has no nulls, and each atom has one to four terms, where the
-- atoms' arrays have four.
-- Assumes nothing.
use Rattle.std.proofs.Common.{◌<◌, List, sym, subst, arith}
use Rattle.std.proofs.lemmas.List.{length-take}
use Rattle.rules.specs.declared.Term.{Term}
use Rattle.rules.specs.declared.Term.TheVariants.{Constant, Variable, Null}
use Rattle.rules.specs.declared.Atom.{Atom}
use Rattle.rules.specs.declared.rule.Rule.{Rule}
use Rattle.rules.specs.Logic.{In, Each, Formula, Implication, formula_of, terms_of}
use Rattle.rules.specs.Bounds.{Plain, RuleAtom}
use Rattle.rules.specs.Rules.{meaning}
use Rattle.rules.proofs.Bounded.{makes_rule_decided}
use Rattle.matches.specs.Lists.{formulas, Sized, Whole}
use Rattle.matches.proofs.Basics.{in_terms, from_terms, from_map}

-- a rule's terms are constants and variables below 12
abbrev pub Within : Term → Type 0
Within (Constant c) = Unit {0}
Within (Variable v) = v < 12
Within (Null n) = ⊥

pub record Bounded (r : Implication) : Type 0 where
  pub body : Each Within (terms_of r.body)
  pub head : Each Within (terms_of r.head)

-- what holds of each term holds of each formula's terms
pub by_formula : (xs : List Formula) → Each Within (terms_of xs) → Each (λ a. Each Within a.terms) xs
by_formula xs w a i t j = w t (in_terms t a xs i j)

plain_within : (t : Term) → Plain t → Within t
plain_within (Constant c) p = tt
plain_within (Variable v) p = omega arith
plain_within (Null n) p = p

atoms_within : (xs : List Atom) → Each RuleAtom xs → Each Within (terms_of (formulas xs))
atoms_within xs each t i =
    let f = from_terms t (formulas xs) i in
    let m = from_map formula_of f.0 xs f.1 in
    plain_within t ((each m.0 m.1).plain t (subst (λ (a : Formula). In t a.terms) m.2 f.2))

pub atoms_sized : (xs : List Atom) → Each RuleAtom xs → Each Whole xs → Each Sized (formulas xs)
atoms_sized xs each whole a i =
    let m = from_map formula_of a xs i in
    let some = (each m.0 m.1).some in
    let few = (each m.0 m.1).few in
    let four = whole m.0 m.1 in
    subst Sized (sym m.2) (simp length-take (omega arith), simp length-take (omega arith))

pub bounded : (r : Rule) → Bounded (meaning r)
bounded r =
    let m = (makes_rule_decided r.parts).0 r.kept in
    record {
      body = atoms_within _ m.body;
      head = atoms_within _ m.head;
    }
