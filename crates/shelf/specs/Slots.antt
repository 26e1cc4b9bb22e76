-- What the slots of a shelf hold.
use Rattle.std.specs.Prelude.{ℕ, Bool, false, cond, List, [], ◌∷◌, Some, None, Option, ◌==◌, nat_lt, slice_index_or}
use Rattle.rules.specs.Logic.{Numbered}
use Rattle.volumes.specs.declared.rule_volume.NumberedRule.{NumberedRule}
use Rattle.volumes.specs.Volumes.{numbered}

-- the slot has the rule of this number
abbrev pub slot_has? : ℕ → Option NumberedRule → Bool
slot_has? n None = false
slot_has? n (Some x) = x.number == n

-- the rules xs by rising number, and x among them
abbrev pub inserted : Numbered → List Numbered → List Numbered
inserted x [] = x ∷ []
inserted x (y ∷ ys) = cond (nat_lt x.number y.number) (x ∷ (y ∷ ys)) (y ∷ inserted x ys)

-- what slot i holds; past the end, nothing
abbrev pub slot : List (Option NumberedRule) → ℕ → Option NumberedRule
slot slots i = slice_index_or slots i None

-- the rules in the slots, by rising number
abbrev pub sorted : List (Option NumberedRule) → List Numbered
sorted [] = []
sorted (None ∷ slots) = sorted slots
sorted (Some x ∷ slots) = inserted (numbered x) (sorted slots)
