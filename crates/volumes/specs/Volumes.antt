-- What volumes that are taken up mean, and what is had from them.
use Rattle.std.specs.Prelude.{◌≡◌, ℕ, ◌+◌, ◌<◌, ◌≤◌, List, length, Some, None, Option}
use Rattle.rules.specs.declared.Atom.{Atom}
use Rattle.rules.specs.Logic.{Formula, formula_of, Numbered}
use Rattle.rules.specs.Rules.{meaning}
use Rattle.volumes.specs.declared.rule_volume.NumberedRule.{NumberedRule}
use Rattle.volumes.specs.declared.cursor.Cursor.{Cursor}
use Rattle.volumes.specs.declared.items.RuleAtoms.{RuleAtoms}
use Rattle.volumes.specs.Layout.{rules_end}
use Rattle.volumes.specs.Answers.{Nth, Had, taken}
use Rattle.volumes.specs.Handing.{HandsOut}
use Rattle.volumes.specs.Reading.{read_rules, read_facts}

-- the rules and the facts that bytes are taken up with, as `take_up` says
abbrev pub rules_of : List ℕ → List Numbered
rules_of bs = taken (read_rules bs)

abbrev pub facts_of : List ℕ → List Formula
facts_of bs = taken (read_facts bs)

-- a numbered rule by its meaning
abbrev pub numbered : NumberedRule → Numbered
numbered x = record { number = x.number; rule = meaning x.rule }

-- the cursor at the first byte of the rule of index i, which ends where the rule does, or none where there are not so many
abbrev pub RulePart : List ℕ → ℕ → Option Cursor → Type 0
RulePart bs i (Some c) = (i < length (rules_of bs)) × (c.bytes.now ≡ bs) × (c.place ≡ rules_end bs i) × (c.end ≡ rules_end bs (i + 1))
RulePart bs i None = length (rules_of bs) ≤ i

-- the rule and the fact of index i, or none where there are not so many
abbrev pub RuleHad : List Numbered → ℕ → Option NumberedRule → Type 0
RuleHad = Had numbered

abbrev pub FactHad : List Formula → ℕ → Option Atom → Type 0
FactHad = Had formula_of

-- the reader of the atoms of the rule of index i, or one that is at its end where there are not so many
pub record AtomsHad (bs : List ℕ) (i : ℕ) (a : RuleAtoms) : Type 0 where
  pub bytes : a.cursor.bytes.now ≡ bs
  pub hands : (x : Numbered) → Nth (rules_of bs) i x → (a.cursor.place ≡ rules_end bs i + 2) × HandsOut a x.rule
  pub none : length (rules_of bs) ≤ i → (a.bodies ≡ 0) × (a.heads ≡ 0)
