-- What the check of a volume answers, what is taken up, and what is had of that.
use Rattle.std.specs.Prelude.{◌≡◌, ℕ, ◌<◌, ◌≤◌, List, [], length, Some, None, Option, Ok, Err, Result, slice_index_or}
use Rattle.faults.specs.declared.Fault.{Fault}

-- a is right by the layout, and nothing else is
pub record TheAnswer {A : Type 0} (Says : Result A Fault → Type 0) (a : Result A Fault) : Type 0 where
  pub right : Says a
  pub only : (b : Result A Fault) → Says b → b ≡ a

-- how many there are, or the fault
abbrev pub counted : {A : Type 0} → Result (List A) Fault → Result ℕ Fault
counted (Ok xs) = Ok (length xs)
counted (Err f) = Err f

-- what is taken up: nothing where there is a fault
abbrev pub taken : {A : Type 0} → Result (List A) Fault → List A
taken (Ok xs) = xs
taken (Err f) = []

-- r counts what the bytes are by the layout, or is their first fault
pub record Checked {A : Type 0} (Says : Result (List A) Fault → Type 0) (r : Result ℕ Fault) : Type 0 where
  pub answer : Result (List A) Fault
  pub the : TheAnswer Says answer
  pub told : r ≡ counted answer

-- xs is what the bytes are by the layout, or nothing where they have a fault
pub record TakenUp {A : Type 0} (Says : Result (List A) Fault → Type 0) (xs : List A) : Type 0 where
  pub answer : Result (List A) Fault
  pub the : TheAnswer Says answer
  pub are : xs ≡ taken answer

-- x is the element of index i
abbrev pub Nth : {A : Type 0} → List A → ℕ → A → Type 0
Nth {A} xs i x = (i < length xs) × ((d : A) → slice_index_or xs i d ≡ x)

-- what is had of index i means the element of that index, or is none where there are not so many
abbrev pub Had : {E A : Type 0} → (E → A) → List A → ℕ → Option E → Type 0
Had means xs i (Some e) = Nth xs i (means e)
Had means xs i None = length xs ≤ i
