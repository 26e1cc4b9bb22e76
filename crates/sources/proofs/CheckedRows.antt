-- Rows that pass, and rows that do not.
use Rattle.std.proofs.Common.{ℕ, ◌<◌, List, [], ◌∷◌, length, get_or, take, inl, refl, sym, subst, Decides, ⊎_elim, arith}
use Rattle.std.proofs.lemmas.List.{get_or-take, length-take}
use Rattle.rules.specs.declared.Atom.{Atom}
use Rattle.rules.specs.Logic.{Each}
use Rattle.rules.specs.Bounds.{every}
use Rattle.rules.proofs.Membership.{decides_every}
use Rattle.faults.specs.declared.source.SourceFault.{SourceFault}
use Rattle.matches.specs.Lists.{formulas, FactAtom}
use Rattle.matches.specs.Matching.{fact_atom?}
use Rattle.matches.proofs.Basics.{each_index}
use Rattle.matches.proofs.Steps.{no_atom}
use Rattle.matches.proofs.Literal.{decides_fact_atom}
use Rattle.sources.proofs.Listed.{in_nth}
use Rattle.sources.specs.Rows.{RowsPass, RowsWrong, RowsTaken}

-- what holds of each element of a list of one
pub decides_one : {b : _} (a : Atom) → Decides b (Each FactAtom (a ∷ [])) → Decides b (FactAtom a)
decides_one a d = (λ e. d.0 e a (inl refl), λ f. d.1 (λ x i. ⊎_elim (λ e. subst FactAtom (sym e) f) (λ n. absurd n) i))

-- the first i rows are facts
pub first_facts : (rows : List Atom) (i : ℕ) → ((k : ℕ) → k < i → FactAtom (get_or rows k no_atom)) → Each FactAtom (take i rows)
first_facts rows i f =
    each_index FactAtom no_atom (take i rows) (λ k l.
    let m : k < i = let z = simp length-take at l in omega arith in
    subst FactAtom (sym (get_or-take i rows k no_atom m)) (f k m))

pub all_facts : (rows : List Atom) → ((k : ℕ) → k < length rows → FactAtom (get_or rows k no_atom)) → Each FactAtom rows
all_facts rows = each_index FactAtom no_atom rows

pub decides_facts : (rows : List Atom) → Decides (every fact_atom? rows) (Each FactAtom rows)
decides_facts = decides_every fact_atom? FactAtom decides_fact_atom

-- rows with a fault do not pass
wrong_rows : (rows : List Atom) (f : SourceFault) → RowsWrong rows f → RowsPass rows → ⊥
wrong_rows rows f (RowsWrong.too_many l e) p = let few = p.few in absurd (omega arith)
wrong_rows rows f (RowsWrong.wrong_row l i before row n wrong e) p = wrong (p.facts row (in_nth rows i row n))

pub taken_ok : (rows : List Atom) → RowsPass rows → RowsTaken rows (formulas rows)
taken_ok rows p = record { passed = λ _. refl; failed = λ n. absurd (n p) }

pub taken_err : (rows : List Atom) (f : SourceFault) → RowsWrong rows f → RowsTaken rows []
taken_err rows f w = record { passed = λ p. absurd (wrong_rows rows f w p); failed = λ n. refl }
