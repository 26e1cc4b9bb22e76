-- How the least numbering is found (below the public contracts).
use Rattle.std.specs.Prelude.{◌≡◌, ℕ, ◌+◌, ◌<◌, ◌≤◌, List, slice_index}
use Rattle.grades.specs.declared.slots.Slots.{Slots}
use Rattle.grades.specs.declared.pairs.Pairs.{Pairs}
use Rattle.grades.specs.Pairs.{HasSlot, Related}
use Rattle.grades.specs.Numbering.{Keeps}
use Rattle.grades.specs.Sets.{size}

-- of the slots of the set, those that need a greater number than some slot of it: whatever comes after one of the set by
-- `less_than`, and whatever comes after those by `at_most`
pub record Above (set : Slots) (at_most less_than : Pairs) (found : Slots) : Type 0 where
  pub within : (j : ℕ) → HasSlot found j → HasSlot set j
  pub first : (i j : ℕ) → HasSlot set i → HasSlot set j → Related less_than i j → HasSlot found j
  pub closed : (i j : ℕ) → HasSlot found i → HasSlot set j → Related at_most i j → HasSlot found j
  pub needed :
      (number : ℕ → ℕ) → Keeps (HasSlot set) (Related at_most) (Related less_than) number
      → (m : ℕ) → ((i : ℕ) → HasSlot set i → m ≤ number i) → (j : ℕ) → HasSlot found j → m < number j

-- the slots of the set have the number n, and the others have what they had
pub record Given (n : ℕ) (set : Slots) (old new : List ℕ) : Type 0 where
  pub given : (i : ℕ) → HasSlot set i → slice_index new i ≡ n
  pub others : (i : ℕ) → (HasSlot set i → ⊥) → slice_index new i ≡ slice_index old i

-- the numbers so far: the slots left have the highest one. They keep both relations, but where a slot left has to be less than
-- another one, it is only at most it
pub record Rising (held : Slots) (at_most less_than : Pairs) (left : Slots) (highest : ℕ) (numbers : List ℕ) : Type 0 where
  pub within : (i : ℕ) → HasSlot left i → HasSlot held i
  pub high : (i : ℕ) → HasSlot left i → slice_index numbers i ≡ highest
  pub low : (i : ℕ) → HasSlot held i → (HasSlot left i → ⊥) → slice_index numbers i < highest
  pub keeps_at_most :
      (i j : ℕ) → HasSlot held i → HasSlot held j → Related at_most i j → slice_index numbers i ≤ slice_index numbers j
  pub nearly_less :
      (i j : ℕ) → HasSlot held i → HasSlot held j → Related less_than i j → slice_index numbers i ≤ slice_index numbers j
  pub keeps_less :
      (i j : ℕ) → HasSlot held i → (HasSlot left i → ⊥) → HasSlot held j → Related less_than i j
      → slice_index numbers i < slice_index numbers j
  pub least :
      (number : ℕ → ℕ) → Keeps (HasSlot held) (Related at_most) (Related less_than) number
      → (i : ℕ) → HasSlot held i → slice_index numbers i ≤ number i
  pub others : (i : ℕ) → (HasSlot held i → ⊥) → slice_index numbers i ≡ 0
  pub room : highest + size 64 left.bits ≤ 64
