-- When two formulas are the same, as a test that computes.
use Rattle.std.specs.Prelude.{ℕ, Bool, nat_eq}
use Rattle.std.specs.Ordering.{on, eq_of_both}
use Rattle.std.specs.Cmp.{IsPartialEquivalence, partial_equiv_from_equiv, nat_eq_equiv, on_per, and_per}
use Rattle.std.specs.Cmp.Lexicographic.{pointwise, lists_per}
use Rattle.rules.specs.declared.Term.{Term}
use Rattle.rules.specs.declared.Term.TheVariants.{Constant, Variable, Null}
use Rattle.rules.specs.declared.Atom.{Atom}
use Rattle.rules.specs.Logic.{Formula, formula_of}

-- a term's kind and its number
abbrev pub kind_of : Term → ℕ
kind_of (Constant n) = 0
kind_of (Variable n) = 1
kind_of (Null n) = 2

abbrev pub number_of : Term → ℕ
number_of (Constant n) = n
number_of (Variable n) = n
number_of (Null n) = n

abbrev pub same_term? : Term → Term → Bool
same_term? = eq_of_both (on kind_of nat_eq) (on number_of nat_eq)

abbrev pub same_formula? : Formula → Formula → Bool
same_formula? = eq_of_both (on (λ a. a.predicate) nat_eq) (on (λ a. a.terms) (pointwise same_term?))

abbrev pub same_atom? : Atom → Atom → Bool
same_atom? = on formula_of same_formula?

-- what a comparison owes: these are symmetric and transitive
same_term_laws : IsPartialEquivalence same_term?
same_term_laws = and_per (on_per kind_of (partial_equiv_from_equiv nat_eq_equiv)) (on_per number_of (partial_equiv_from_equiv nat_eq_equiv))

same_formula_laws : IsPartialEquivalence same_formula?
same_formula_laws = and_per (on_per (λ a. a.predicate) (partial_equiv_from_equiv nat_eq_equiv)) (on_per (λ a. a.terms) (lists_per same_term_laws))

pub same_atom_laws : IsPartialEquivalence same_atom?
same_atom_laws = on_per formula_of same_formula_laws
