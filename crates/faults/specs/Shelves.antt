-- The number, the rank, the index and the place of each refusal of a shelf.
use Rattle.std.specs.Prelude.{ℕ, List}
use Rattle.faults.specs.declared.shelf.ShelfFault.{ShelfFault}
use Rattle.faults.specs.declared.shelf.ShelfFault.TheVariants.{Full, AlreadyHeld, NotHeld, NoRule, NoNumbering}
use Rattle.faults.specs.Text.{refusal_text}

-- the refusal's number
abbrev pub shelf_number : ShelfFault → ℕ
shelf_number (Full n) = 11
shelf_number (AlreadyHeld n) = 12
shelf_number (NotHeld n) = 13
shelf_number (NoRule i) = 14
shelf_number NoNumbering = 22

-- the rank of the layer, which is the shelf
abbrev pub shelf_rank : ShelfFault → ℕ
shelf_rank f = 6

-- no index in the contents of a volume is concerned
abbrev pub shelf_index : ShelfFault → ℕ
shelf_index f = 0

-- the rule's number, or the index that was asked for
abbrev pub shelf_place : ShelfFault → ℕ
shelf_place (Full n) = n
shelf_place (AlreadyHeld n) = n
shelf_place (NotHeld n) = n
shelf_place (NoRule i) = i
shelf_place NoNumbering = 0

-- what it is printed as
abbrev pub shelf_text : ShelfFault → List ℕ
shelf_text f = refusal_text (shelf_number f) (shelf_rank f) (shelf_index f) (shelf_place f)
