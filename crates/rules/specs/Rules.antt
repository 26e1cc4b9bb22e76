-- Rules as they are held.
use Rattle.std.specs.Prelude.{◌≡◌, List, take, Some, None, Option}
use Rattle.rules.specs.declared.Atom.{Atom}
use Rattle.rules.specs.declared.parts.RuleParts.{RuleParts}
use Rattle.rules.specs.declared.rule.Rule.{Rule}
use Rattle.rules.specs.Logic.{Implication, implication_of}
use Rattle.rules.specs.Bounds.{MakesRule}

-- what a rule means
abbrev pub meaning : Rule → Implication
meaning r = implication_of r.parts

-- the atoms of a rule's head in the order in which a search maps them
abbrev pub order_of : Rule → List Atom
order_of r = take r.parts.heads r.order

-- what comes of parts: the rule that has them, or none exactly where they make no rule
abbrev pub MadeOf : RuleParts → Option Rule → Type 0
MadeOf p (Some r) = (r.parts ≡ p) × MakesRule p
MadeOf p None = MakesRule p → ⊥
