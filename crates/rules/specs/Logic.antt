-- What atoms and rules mean, with no bound on their numbers.
use Rattle.std.specs.Prelude.{◌≡◌, ℕ, ◌⊎◌, List, [], ◌∷◌, ◌++◌, map, take}
use Rattle.rules.specs.declared.Term.{Term}
use Rattle.rules.specs.declared.Term.TheVariants.{Variable}
use Rattle.rules.specs.declared.Atom.{Atom}
use Rattle.rules.specs.declared.parts.RuleParts.{RuleParts}

-- x stands in the list
abbrev pub In : {A : Type 0} → A → List A → Type 0
In x [] = ⊥
In x (y ∷ ys) = (x ≡ y) ⊎ In x ys

-- P holds of each element
abbrev pub Each : {A : Type 0} → (A → Type 0) → List A → Type 0
Each {A} P xs = (x : A) → In x xs → P x

-- an atomic formula: a predicate and its terms, of which there are as many as its arity
pub record Formula : Type 0 where
  pub predicate : ℕ
  pub terms : List Term

-- what an atom means
abbrev pub formula_of : Atom → Formula
formula_of a = record { predicate = a.predicate; terms = take a.arity a.terms }

-- an implication: where the body holds, the head does, for some values of the variables that the body lacks
pub record Implication : Type 0 where
  pub body : List Formula
  pub head : List Formula

-- what a rule's parts mean
abbrev pub implication_of : RuleParts → Implication
implication_of p =
    record { body = map formula_of (take p.bodies p.body); head = map formula_of (take p.heads p.head) }

-- the terms that stand in some formula of the list, from left to right
abbrev pub terms_of : List Formula → List Term
terms_of [] = []
terms_of (a ∷ rest) = a.terms ++ terms_of rest

-- a universal variable stands in the body
abbrev pub Universal : Implication → ℕ → Type 0
Universal r v = In (Variable v) (terms_of r.body)

-- an existential variable stands in the head, and not in the body
abbrev pub Existential : Implication → ℕ → Type 0
Existential r v = In (Variable v) (terms_of r.head) × (Universal r v → ⊥)

-- a rule under its number
pub record Numbered : Type 0 where
  pub number : ℕ
  pub rule : Implication
