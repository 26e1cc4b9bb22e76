-- Numberings that keep two relations.
use Rattle.std.specs.Prelude.{◌≡◌, ℕ, ◌<◌, ◌≤◌, List, slice_index, Some, None, Option}
use Rattle.grades.specs.declared.slots.Slots.{Slots}
use Rattle.grades.specs.declared.pairs.Pairs.{Pairs}
use Rattle.grades.specs.Pairs.{HasSlot, Related}

-- a numbering gives each of the things held a whole number from 0. It keeps the two relations between them if the first's
-- number is at most the second's, or less than it, where they say so, for a thing with itself too
pub record Keeps (Held : ℕ → Type 0) (AtMost LessThan : ℕ → ℕ → Type 0) (number : ℕ → ℕ) : Type 0 where
  pub at_most : (i j : ℕ) → Held i → Held j → AtMost i j → number i ≤ number j
  pub less_than : (i j : ℕ) → Held i → Held j → LessThan i j → number i < number j

-- of all numberings that keep the relations, none has a lower number anywhere
pub record Least (Held : ℕ → Type 0) (AtMost LessThan : ℕ → ℕ → Type 0) (number : ℕ → ℕ) : Type 0 where
  pub keeps : Keeps Held AtMost LessThan number
  pub least : (other : ℕ → ℕ) → Keeps Held AtMost LessThan other → (i : ℕ) → Held i → number i ≤ other i

-- the least numbering of the slots held, with 0 for each other slot, and no number over 63
pub record LeastOfSlots (held : Slots) (at_most less_than : Pairs) (numbers : List ℕ) : Type 0 where
  pub least : Least (HasSlot held) (Related at_most) (Related less_than) (slice_index numbers)
  pub others : (i : ℕ) → (HasSlot held i → ⊥) → slice_index numbers i ≡ 0
  pub small : (i : ℕ) → slice_index numbers i < 64

-- what comes of numbering the slots held: the least numbering, or none where no numbering keeps the relations
abbrev pub Numbered : Slots → Pairs → Pairs → Option (List ℕ) → Type 0
Numbered held at_most less_than (Some numbers) = LeastOfSlots held at_most less_than numbers
Numbered held at_most less_than None =
    (number : ℕ → ℕ) → Keeps (HasSlot held) (Related at_most) (Related less_than) number → ⊥
