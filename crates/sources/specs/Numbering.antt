-- How new nulls are numbered: what the inner functions promise. The contracts of public functions do not speak of it.
use Rattle.std.specs.Prelude.{◌≡◌, ℕ, ◌+◌, ◌<◌, ◌≤◌, Bool, ◌⊎◌, List, length, Ok, Err, Result, Some, None, Option}
use Rattle.rules.specs.declared.Term.{Term}
use Rattle.rules.specs.declared.Term.TheVariants.{Null}
use Rattle.rules.specs.Logic.{In, Formula, Implication}
use Rattle.rules.specs.Bounds.{flags}
use Rattle.rules.specs.Matches.{Assignment, Unsatisfied}
use Rattle.faults.specs.declared.source.SourceFault.{SourceFault}
use Rattle.matches.specs.Lists.{look}
use Rattle.volumes.specs.Answers.{Nth}
use Rattle.sources.specs.Searching.{KnownWith}
use Rattle.sources.specs.Applying.{FirstNew, new_variables, NullsFit, Filling, Declined}

-- n is the least number from n_before on that is above each null among the terms
pub record LeastAbove (ts : List Term) (n_before n : ℕ) : Type 0 where
  pub up : n_before ≤ n
  pub above : (m : ℕ) → In (Null m) ts → m < n
  pub least : (n ≡ n_before) ⊎ ((m : ℕ) × In (Null m) ts × (n ≡ m + 1))

-- the variables among the terms that were not known are given the nulls from n on, in the order in which they first stand
pub record Given (ts : List Term) (n : ℕ) (known_before : List Bool) (before : List Term) (next : ℕ) (known : List Bool) (values : List Term) : Type 0 where
  pub after : next ≡ n + length (new_variables (flags known_before) ts)
  pub small : next ≤ 65536
  pub nulls : (i v : ℕ) → Nth (new_variables (flags known_before) ts) i v → look values v ≡ Null (n + i)
  pub others : (v : ℕ) → (In v (new_variables (flags known_before) ts) → ⊥) → look values v ≡ look before v
  pub knows : KnownWith known_before ts known

-- none where such a null would pass 65,535
abbrev pub GivenAnswer : List Term → ℕ → List Bool → List Term → Option ℕ → List Bool → List Term → Type 0
GivenAnswer ts n known_before before (Some next) known values = Given ts n known_before before next known values
GivenAnswer ts n known_before before None known values = 65536 < n + length (new_variables (flags known_before) ts)

-- r can be applied on F by h, and k is what the variables are then given
pub record Applicable (r : Implication) (h : Assignment) (F : List Formula) (k : Assignment) : Type 0 where
  pub unsatisfied : Unsatisfied r h F
  pub first : ℕ
  pub new : FirstNew F first
  pub fit : NullsFit r first
  pub few : length F + length r.head ≤ 4096
  pub filling : Filling r h first k

-- the values, or why the application is declined
abbrev pub ValuesAnswer : Implication → Assignment → List Formula → Result (List Term) SourceFault → Type 0
ValuesAnswer r h F (Ok values) = Applicable r h F (look values)
ValuesAnswer r h F (Err f) = Declined r h F f

-- the values, or none where a null would pass 65,535
abbrev pub FillingAnswer : Implication → Assignment → ℕ → Option (List Term) → Type 0
FillingAnswer r h n (Some values) = NullsFit r n × Filling r h n (look values)
FillingAnswer r h n None = NullsFit r n → ⊥
