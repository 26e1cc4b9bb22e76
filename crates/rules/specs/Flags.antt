-- What is told on the way to a rule: the atoms that it may have, and the flags of its variables.
use Rattle.std.specs.Prelude.{◌≡◌, ℕ, ◌<◌, Bool, ◌&&◌, ◌||◌, List, length, nat_le}
use Rattle.rules.specs.declared.parts.RuleParts.{RuleParts}
use Rattle.rules.specs.Bounds.{every, flags, rule_atom?, body_of, head_of}

-- there are as many atoms as a rule may have, and each is one that it may have
abbrev pub rule_atoms? : RuleParts → Bool
rule_atoms? p =
    nat_le 1 p.bodies && (nat_le p.bodies 6 && (nat_le 1 p.heads && (nat_le p.heads 4 && (every rule_atom? (body_of p) && every rule_atom? (head_of p)))))

-- the flags of the numbers that pass are set, besides those that were
pub record Sets (test : ℕ → Bool) (xs ys : List Bool) : Type 0 where
  pub long : length ys ≡ length xs
  pub each : (v : ℕ) → v < length xs → flags ys v ≡ flags xs v || test v
