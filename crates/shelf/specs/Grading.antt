-- Steps of grading (below the public contracts).
use Rattle.std.specs.Prelude.{◌≡◌, ℕ, ◌<◌, ◌≤◌, Bool, List, [], map, length, Some, None, Option, IsSome, nat_lt}
use Rattle.rules.specs.Logic.{Each, Numbered}
use Rattle.rules.specs.Rules.{meaning}
use Rattle.volumes.specs.declared.rule_volume.NumberedRule.{NumberedRule}
use Rattle.volumes.specs.Volumes.{numbered}
use Rattle.reliances.specs.declared.sheet.Kind.{Kind}
use Rattle.reliances.specs.Sheets.{Holds}
use Rattle.shelf.specs.Slots.{slot}

-- the rule that a slot has; of a free one it does not matter which
abbrev pub rule_in : Option NumberedRule → Numbered
rule_in None = record { number = 0; rule = record { body = []; head = [] } }
rule_in (Some x) = numbered x

abbrev pub rule_at : List (Option NumberedRule) → ℕ → Numbered
rule_at slots i = rule_in (slot slots i)

-- both slots have rules, and the relation holds between them
abbrev pub HoldIn : Kind → Option NumberedRule → Option NumberedRule → Type 0
HoldIn kind None b = ⊥
HoldIn kind (Some x) None = ⊥
HoldIn kind (Some x) (Some y) = Holds kind (meaning x.rule) (meaning y.rule)

abbrev pub HoldAt : Kind → List (Option NumberedRule) → ℕ → ℕ → Type 0
HoldAt kind slots i j = HoldIn kind (slot slots i) (slot slots j)

-- the number of the rule in slot i is greater than n
abbrev pub above? : List (Option NumberedRule) → ℕ → ℕ → Bool
above? slots n i = nat_lt n (rule_at slots i).number

-- the slots listed have rules, and these are rs in this order
pub record Arranged (slots : List (Option NumberedRule)) (rs : List Numbered) (order : List ℕ) : Type 0 where
  pub rules : rs ≡ map (rule_at slots) order
  pub held : Each (λ i. IsSome (slot slots i)) order
  pub within : Each (λ i. i < 64) order
  pub few : length order ≤ 64
