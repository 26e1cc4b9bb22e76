-- What is known at a node of the search for a restraint of B by A (below the public contracts).
-- A node has a substitution σ, the atoms of B's head, as the alternative reads them, that were left old, and those that remain.
use Rattle.std.specs.Prelude.{◌≡◌, ℕ, ◌+◌, ◌<◌, ◌≤◌, Bool, true, false, List, ◌++◌, map, take, Some, None, Option}
use Rattle.rules.specs.declared.Term.{Term}
use Rattle.rules.specs.declared.Term.TheVariants.{Constant, Variable, Null}
use Rattle.rules.specs.declared.Atom.{Atom}
use Rattle.rules.specs.declared.rule.Rule.{Rule}
use Rattle.rules.specs.Bounds.{some, body_of, head_of, flags}
use Rattle.rules.specs.Logic.{In, Each, Formula, Implication, terms_of, Existential}
use Rattle.rules.specs.Matches.{Stands, Assignment, value, under, Satisfied}
use Rattle.rules.specs.Reliances.{Alternative, ShowsRestraint}
use Rattle.matches.specs.Lists.{look, under_atom, Spares}
use Rattle.reliances.specs.declared.sheet.Sheet.{Sheet}
use Rattle.reliances.specs.declared.early.Early.{Early}
use Rattle.std.specs.List.{filter}
use Rattle.reliances.specs.Unification.{Subst, existential_term?, through, part, wide, shift_formula, other, before_of, later_of}
use Rattle.reliances.specs.Following.{Good, slot, three}

-- an existential variable of B stands in the formula
abbrev pub opens? : Implication → Formula → Bool
opens? B a = some (existential_term? B) a.terms

-- the atoms of B's head that are gone through, as the alternative reads them. Those in which no existential variable stands are
-- facts wherever B was applied
abbrev pub shifted : Implication → List Formula
shifted B = map (shift_formula B) (filter (opens? B) B.head)

-- some facts and matches that show the restraint follow the search to the node
pub record Followed (A B : Implication) (rigid : ℕ → Bool) (σ : Subst) (old : List Formula) : Type 0 where
  pub facts : List Formula
  pub later : List Formula
  pub first : Assignment
  pub second : Assignment
  pub other : Assignment
  pub shows : ShowsRestraint A B facts later first second other
  pub good : Good (three first second other) rigid σ
  pub actual : Each (λ o. In (under (slot (three first second other) 12) o) later) old

-- nothing at the node rules the restraint out for good; only alternatives that come too early may
pub record Open (A B : Implication) (σ : Subst) (old : List Formula) : Type 0 where
  pub spare_second : (v : ℕ) → Existential B v → Stands (Null (12 + v)) (before_of B σ) → ⊥
  pub second : Satisfied B (look (part σ 12)) (before_of B σ) → ⊥
  pub spare_first : (v : ℕ) → Existential A v → Stands (Null v) (later_of A B σ old) → ⊥
  pub first : Satisfied A (look (part σ 0)) (later_of A B σ old) → ⊥
  pub spared : (v : ℕ) × Existential B v × (Stands (Null (12 + v)) (map (under (other B σ)) B.head) → ⊥)

-- a term of the second rule's head as the alternative reads it, by the flags of rigid slots
abbrev pub shift_by : List Bool → Term → Term
shift_by rigid (Constant c) = Constant c
shift_by rigid (Variable v) = Variable (elim (flags rigid (12 + v)) [ true ↦ 12 + v | false ↦ v ])
shift_by rigid (Null n) = Null n

abbrev pub shift_atom : List Bool → Atom → Atom
shift_atom rigid a = record { predicate = a.predicate; arity = a.arity; terms = map (shift_by rigid) a.terms }

-- the facts of a node as atoms: what B is applied on and gives, and what is there besides when A is applied
abbrev pub laid_before : Rule → Subst → List Atom
laid_before B σ = map (under_atom (look (part σ 12))) (body_of B.parts)

abbrev pub laid_extra : Rule → Subst → List Atom → List Atom
laid_extra A σ old = map (under_atom (look (part σ 0))) (body_of A.parts) ++ map (under_atom (look (wide σ))) old

abbrev pub laid_later : Rule → Rule → Subst → List Atom → List Atom
laid_later A B σ old = (laid_before B σ ++ map (under_atom (look (part σ 12))) (head_of B.parts)) ++ laid_extra A σ old

-- the null of some rigid slot of B stands in none of the formulas
abbrev pub SomeSpared : List Bool → List Formula → Type 0
SomeSpared rigid F = (r : ℕ) × (12 ≤ r) × (flags rigid r ≡ true) × (Stands (Null r) F → ⊥)

-- a null that can become one that the application of B gives: its slot is not rigid, and it stands in none of the facts C that B
-- is applied on, in which the nulls of the application do not stand
abbrev pub Loose : (ℕ → Bool) → List Formula → ℕ → Type 0
Loose rigid C r = (rigid r ≡ false) × (Stands (Null r) C → ⊥)

-- rs are the loose nulls among the terms
pub record AreLoose (rigid : ℕ → Bool) (C : List Formula) (ts : List Term) (rs : List ℕ) : Type 0 where
  pub sound : Each (λ r. Loose rigid C r × In (Null r) ts) rs
  pub complete : (r : ℕ) → Loose rigid C r → In (Null r) ts → In r rs

-- an alternative on S with the variable whose null it spares and the loose nulls in it, or none where there is no alternative at all
abbrev pub EarlyFound : Implication → (ℕ → Bool) → List Formula → Assignment → List Formula → Option Early → Type 0
EarlyFound B rigid C h S (Some e) = (k : Assignment) × Spares B h S e.spared k × AreLoose rigid C (terms_of (map (under k) B.head)) e.nulls.items
EarlyFound B rigid C h S None = (k : Assignment) → Alternative B h S k → ⊥

-- an alternative on S in which no null is loose
abbrev pub Stuck : Implication → (ℕ → Bool) → List Formula → Assignment → List Formula → Type 0
Stuck B rigid C h S = (v : ℕ) × (k : Assignment) × Spares B h S v k × ((r : ℕ) → Loose rigid C r → Stands (Null r) (map (under k) B.head) → ⊥)

-- the list holds what the alternative gives the variables
abbrev pub OtherIs : List Bool → Subst → List Term → Type 0
OtherIs rigid σ xs = (v : ℕ) → v < 12 → look xs v ≡ value (through σ 12) (shift_by rigid (Variable v))

-- the sheet that a way ends in
pub record IsFound (A B : Rule) (rigid : List Bool) (σ : Subst) (old : List Atom) (s : Sheet) : Type 0 where
  pub few : s.first_len ≤ 11
  pub fewer : s.second_len ≤ 9
  pub first_rule : s.first_rule ≡ part σ 0
  pub second_rule : s.second_rule ≡ part σ 12
  pub other : OtherIs rigid σ s.alternative
  pub list : take s.first_len s.first ≡ laid_before B σ
  pub more : take s.second_len s.second ≡ laid_extra A σ old
