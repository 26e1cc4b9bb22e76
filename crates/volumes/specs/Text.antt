-- What volumes are printed as, in bytes.
use Rattle.std.specs.Prelude.{ℕ, List, ◌++◌, map, codes, decimal}
use Rattle.std.specs.List.{concat}
use Rattle.rules.specs.Logic.{Formula, Numbered}
use Rattle.rules.specs.Text.{formula_text, rule_text}

-- a rule's number, a colon and the rule
abbrev pub numbered_text : Numbered → List ℕ
numbered_text x = decimal x.number ++ (codes ": " ++ rule_text x.rule)

-- a line for each thing, by its text
abbrev pub lines : {A : Type 0} → (A → List ℕ) → List A → List ℕ
lines text xs = concat (map (λ x. text x ++ codes "\n") xs)

-- a line for each rule or fact, in the order of the contents
abbrev pub rules_text : List Numbered → List ℕ
rules_text = lines numbered_text

abbrev pub facts_text : List Formula → List ℕ
facts_text = lines formula_text
