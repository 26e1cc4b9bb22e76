-- What an application of a rule gives an addition, and which ones are declined.
use Rattle.std.specs.Prelude.{◌≡◌, ℕ, ◌+◌, ◌<◌, ◌≤◌, Bool, cond, ◌||◌, ◌⊎◌, List, [], ◌∷◌, map, length, Ok, Err, Result, ◌==◌}
use Rattle.rules.specs.declared.Term.{Term}
use Rattle.rules.specs.declared.Term.TheVariants.{Constant, Variable, Null}
use Rattle.rules.specs.Logic.{Formula, Implication, terms_of, Universal}
use Rattle.rules.specs.Bounds.{universal?}
use Rattle.rules.specs.Matches.{Stands, Assignment, under, Match, Satisfied, Unsatisfied, Applies, result}
use Rattle.faults.specs.declared.source.SourceFault.{SourceFault}
use Rattle.faults.specs.declared.source.SourceFault.TheVariants.{NoMatch, SatisfiedMatch, NullTooLarge, TooManyFacts}
use Rattle.volumes.specs.Answers.{Nth}
use Rattle.sources.specs.Additions.{laid_over}

-- n is one above the largest number of a null that stands in F, or 0 where none stands there
pub record FirstNew (F : List Formula) (n : ℕ) : Type 0 where
  pub above : (m : ℕ) → Stands (Null m) F → m < n
  pub least : (n ≡ 0) ⊎ ((m : ℕ) × Stands (Null m) F × (n ≡ m + 1))

-- the variables among the terms that are not old: each once, in the order in which they first stand
abbrev pub new_variables : (ℕ → Bool) → List Term → List ℕ
new_variables old [] = []
new_variables old (Constant n ∷ ts) = new_variables old ts
new_variables old (Variable v ∷ ts) = cond (old v) (new_variables old ts) (v ∷ new_variables (λ w. old w || (w == v)) ts)
new_variables old (Null n ∷ ts) = new_variables old ts

-- the existential variables, in the order in which they first stand in the head
abbrev pub new_in_order : Implication → List ℕ
new_in_order r = new_variables (universal? r) (terms_of r.head)

-- nulls from number n on for the existential variables do not pass 65,535
abbrev pub NullsFit : Implication → ℕ → Type 0
NullsFit r n = (i : ℕ) → i < length (new_in_order r) → n + i ≤ 65535

-- k gives the universal variables what h gives them, and the existential ones nulls from number n on, in their order
pub record Filling (r : Implication) (h : Assignment) (n : ℕ) (k : Assignment) : Type 0 where
  pub agrees : (v : ℕ) → Universal r v → k v ≡ h v
  pub nulls : (i v : ℕ) → Nth (new_in_order r) i v → k v ≡ Null (n + i)

-- an application of r by h on F adds the facts own: the head, filled. F followed by them is the result, nothing is cut
pub record Applied (r : Implication) (h : Assignment) (F own : List Formula) : Type 0 where
  pub unsatisfied : Unsatisfied r h F
  pub first : ℕ
  pub new : FirstNew F first
  pub fit : NullsFit r first
  pub few : length F + length r.head ≤ 4096
  pub assignment : Assignment
  pub filling : Filling r h first assignment
  pub added : own ≡ map (under assignment) r.head
  pub applies : Applies r assignment F
  pub all : laid_over F own ≡ result r assignment F

-- an application of r by h on F is declined by f, the first of the refusals that concern it
pub data Declined (r : Implication) (h : Assignment) (F : List Formula) (f : SourceFault) : Type 0 where
  no_match : (Match r h F → ⊥) → f ≡ NoMatch → Declined r h F f
  satisfied : Match r h F → Satisfied r h F → f ≡ SatisfiedMatch → Declined r h F f
  null_too_large : Unsatisfied r h F → (n : ℕ) → FirstNew F n → (NullsFit r n → ⊥) → f ≡ NullTooLarge → Declined r h F f
  too_many : Unsatisfied r h F → (n : ℕ) → FirstNew F n → NullsFit r n → 4096 < length F + length r.head → f ≡ TooManyFacts → Declined r h F f

-- what comes of an application on F, and an addition's own facts after it
abbrev pub ApplyAnswer : Implication → Assignment → List Formula → List Formula → Result (Unit {0}) SourceFault → List Formula → Type 0
ApplyAnswer r h F before (Ok x) own = Applied r h F own
ApplyAnswer r h F before (Err f) own = Declined r h F f × (own ≡ before)
