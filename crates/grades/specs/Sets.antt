-- Steps with sets of slots (below the public contracts).
use Rattle.std.specs.Prelude.{◌≡◌, ℕ, zero, suc, ◌+◌, ◌<◌, ◌⊎◌, Bool, true, false, Some, None, Option}
use Rattle.std.specs.Int.{bit_at}
use Rattle.grades.specs.declared.slots.Slots.{Slots}
use Rattle.grades.specs.Pairs.{HasSlot}

-- no slot is in the set, or some slot is
abbrev pub Emptiness : Slots → Bool → Type 0
Emptiness s true = (i : ℕ) → HasSlot s i → ⊥
Emptiness s false = (i : ℕ) × HasSlot s i

-- one slot is taken out of a set
pub record TakenOut (old new : Slots) (slot : ℕ) : Type 0 where
  pub there : HasSlot old slot
  pub kept : (i : ℕ) → HasSlot new i → HasSlot old i
  pub rest : (i : ℕ) → HasSlot old i → (i ≡ slot) ⊎ HasSlot new i
  pub falls : new.bits < old.bits

-- a slot is taken out, or none where there is none
abbrev pub Taken : Slots → Slots → Option ℕ → Type 0
Taken old new (Some slot) = TakenOut old new slot
Taken old new None = (i : ℕ) → HasSlot old i → ⊥

-- how many of the first k slots are in the set with these bits
unfoldable pub size : ℕ → ℕ → ℕ
size zero x = 0
size (suc k) x = bit_at x k + size k x
