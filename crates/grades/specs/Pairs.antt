-- Sets of slots, relations between slots, and how many pairs there are.
use Rattle.std.specs.Prelude.{◌≡◌, ℕ, ◌<◌, ◌⊎◌, List, [], ◌∷◌, length, slice_index}
use Rattle.std.specs.Int.{bit_at}
use Rattle.grades.specs.declared.slots.Slots.{Slots}
use Rattle.grades.specs.declared.pairs.Pairs.{Pairs}

-- the slot is in the set. There are 64 slots
abbrev pub HasSlot : Slots → ℕ → Type 0
HasSlot s i = (i < 64) × (bit_at s.bits i ≡ 1)

-- the relation holds from slot i to slot j
abbrev pub Related : Pairs → ℕ → ℕ → Type 0
Related r i j = (i < 64) × (j < 64) × (bit_at (slice_index r.rows i) j ≡ 1)

-- x stands in the list
abbrev pub In : {A : Type 0} → A → List A → Type 0
In x [] = ⊥
In x (y ∷ ys) = (x ≡ y) ⊎ In x ys

-- nothing stands in the list twice
abbrev pub Distinct : {A : Type 0} → List A → Type 0
Distinct [] = Unit {0}
Distinct (x ∷ xs) = (In x xs → ⊥) × Distinct xs

-- the list has exactly the things of which P holds, each once
pub record Lists {A : Type 0} (P : A → Type 0) (xs : List A) : Type 0 where
  pub each : (x : A) → In x xs → P x
  pub all : (x : A) → P x → In x xs
  pub once : Distinct xs

-- there are n things of which P holds: a list that has each of them once is of this length
abbrev pub Count : {A : Type 0} → (A → Type 0) → ℕ → Type 0
Count {A} P n = (xs : List A) × Lists P xs × (length xs ≡ n)

-- there are n ordered pairs that the relation has
abbrev pub PairCount : (ℕ → ℕ → Type 0) → ℕ → Type 0
PairCount R n = Count {A = ℕ × ℕ} (λ p. R p.0 p.1) n
