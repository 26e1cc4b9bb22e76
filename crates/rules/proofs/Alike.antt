-- The tests of terms and of formulas decide that they are the same.
-- Assumes nothing.
use Rattle.std.proofs.Common.{◌≡◌, eqb, List, Decides, ap, arith}
use Rattle.std.proofs.lemmas.Bool.Decides.{Decides-eqb, Decides-and, Decides-like}
use Rattle.std.specs.Cmp.Lexicographic.{pointwise, pointwise_decides}
use Rattle.rules.specs.declared.Term.{Term}
use Rattle.rules.specs.declared.Term.TheVariants.{Constant, Variable, Null}
use Rattle.rules.specs.declared.Atom.{Atom}
use Rattle.rules.specs.Logic.{Formula, formula_of}
use Rattle.rules.specs.Same.{kind_of, number_of, same_term?, same_formula?, same_atom?}

same_parts : (a b : Term) → kind_of a ≡ kind_of b → number_of a ≡ number_of b → a ≡ b
same_parts (Constant m) (Constant n) k e = ap Constant e
same_parts (Constant m) (Variable n) k e = absurd (omega arith)
same_parts (Constant m) (Null n) k e = absurd (omega arith)
same_parts (Variable m) (Constant n) k e = absurd (omega arith)
same_parts (Variable m) (Variable n) k e = ap Variable e
same_parts (Variable m) (Null n) k e = absurd (omega arith)
same_parts (Null m) (Constant n) k e = absurd (omega arith)
same_parts (Null m) (Variable n) k e = absurd (omega arith)
same_parts (Null m) (Null n) k e = ap Null e

pub same_term_decided : (a b : Term) → Decides (same_term? a b) (a ≡ b)
same_term_decided a b =
    Decides-like (same_term? a b) (λ e. same_parts a b e.0 e.1) (λ e. (ap kind_of e, ap number_of e))
    (Decides-and (eqb (kind_of a) (kind_of b)) (eqb (number_of a) (number_of b)) (Decides-eqb (kind_of a) (kind_of b)) (Decides-eqb (number_of a) (number_of b)))

pub same_terms_decided : (xs ys : List Term) → Decides (pointwise same_term? xs ys) (xs ≡ ys)
same_terms_decided = pointwise_decides same_term_decided

pub same_formula_decided : (a b : Formula) → Decides (same_formula? a b) (a ≡ b)
same_formula_decided a b =
    Decides-like (same_formula? a b) (λ e i. record { predicate = e.0 i; terms = e.1 i })
    (λ e. (ap (λ (f : Formula). f.predicate) e, ap (λ (f : Formula). f.terms) e))
    (Decides-and (eqb a.predicate b.predicate) (pointwise same_term? a.terms b.terms) (Decides-eqb a.predicate b.predicate) (same_terms_decided a.terms b.terms))

pub same_atom_decided : (a b : Atom) → Decides (same_atom? a b) (formula_of a ≡ formula_of b)
same_atom_decided a b = same_formula_decided (formula_of a) (formula_of b)
