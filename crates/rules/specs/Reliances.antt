-- The two relations between rules that settle their order, and the numberings that keep them.
use Rattle.std.specs.Prelude.{◌≡◌, ℕ, ◌<◌, ◌≤◌, List, map}
use Rattle.rules.specs.Logic.{In, Each, Formula, Implication, Universal, Existential, Numbered}
use Rattle.rules.specs.Matches.{Facts, Stands, Assignment, under, Match, Unsatisfied, Applies, result}

-- the facts F, an application of A by f and a match s of B show that B positively relies on A:
-- s is an unsatisfied match on the result, and no match on F
pub record ShowsReliance (A B : Implication) (F : List Formula) (f s : Assignment) : Type 0 where
  pub facts : Facts F
  pub first : Applies A f F
  pub second : Unsatisfied B s (result A f F)
  pub new : Match B s F → ⊥

-- B positively relies on A: some facts and matches show it
pub record PositiveReliance (A B : Implication) : Type 0 where
  pub before : List Formula
  pub first : Assignment
  pub second : Assignment
  pub shows : ShowsReliance A B before first second

-- k is an alternative, on S, for the application of r by h: it agrees with h on universal variables, every head atom
-- under k is in S, and some null that the application gave stands in none of those atoms
pub record Alternative (r : Implication) (h : Assignment) (S : List Formula) (k : Assignment) : Type 0 where
  pub agrees : (v : ℕ) → Universal r v → k v ≡ h v
  pub present : Each (λ a. In (under k a) S) r.head
  pub spared : ℕ
  pub given : Existential r spared
  pub absent : Stands (h spared) (map (under k) r.head) → ⊥

-- the facts F and H, an application of B by h on F, an application of A by f on H and an assignment k show that A restrains B:
-- H contains the result of B; k is an alternative for h on the result of A, and on H itself there is none
pub record ShowsRestraint (A B : Implication) (F H : List Formula) (f h k : Assignment) : Type 0 where
  pub facts : Facts F
  pub second : Applies B h F
  pub later : Facts H
  pub contains : Each (λ a. In a H) (result B h F)
  pub first : Applies A f H
  pub alternative : Alternative B h (result A f H) k
  pub none : (other : Assignment) → Alternative B h H other → ⊥

-- A restrains B: some facts and matches show it
pub record Restraint (A B : Implication) : Type 0 where
  pub before : List Formula
  pub later : List Formula
  pub first : Assignment
  pub second : Assignment
  pub other : Assignment
  pub shows : ShowsRestraint A B before later first second other

-- a numbering gives each rule a whole number from 0. It keeps the reliances of the rules held: A's is at most B's where
-- B positively relies on A, and less than B's where A restrains B, for A and B the same rule too
abbrev pub Keeps : List Numbered → (ℕ → ℕ) → Type 0
Keeps rs grade =
    (a b : Numbered) → In a rs → In b rs
    → (PositiveReliance a.rule b.rule → grade a.number ≤ grade b.number) × (Restraint a.rule b.rule → grade a.number < grade b.number)
