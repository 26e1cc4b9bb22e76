-- A rule's parts while they are read.
use Rattle.std.specs.Prelude.{◌≡◌, ◌+◌, ◌<◌, List, ◌++◌, length, Err, Result, MatchResult}
use Rattle.rules.specs.declared.parts.RuleParts.{RuleParts}
use Rattle.rules.specs.Logic.{Each, Formula, implication_of}
use Rattle.rules.specs.Bounds.{RuleAtom, body_of, head_of}
use Rattle.volumes.specs.declared.kind.VolumeKind.TheVariants.{Rules}
use Rattle.faults.specs.declared.AtomFault.{AtomFault}
use Rattle.volumes.specs.declared.cursor.Cursor.{Cursor}
use Rattle.volumes.specs.declared.items.RuleAtoms.{RuleAtoms}
use Rattle.volumes.specs.Sequence.{Stand}
use Rattle.volumes.specs.Layout.{at, AtomSays, RuleBegins, span}
use Rattle.volumes.specs.Moves.{Past}
use Rattle.volumes.specs.Items.{SameRule}

-- the atoms of the parts, first the body's and then the head's
abbrev pub formulas : RuleParts → List Formula
formulas p = (implication_of p).body ++ (implication_of p).head

-- the reader has moved from s to t, and the parts hold the atoms that it has passed
pub record Passed (s : RuleAtoms) (p : RuleParts) (t : RuleAtoms) : Type 0 where
  pub atoms : Stand (λ _ q a. AtomSays Rules s.cursor.bytes.now s.cursor.end q a) (λ _ q a. q + span a) 0 s.cursor.place (formulas p) t.cursor.place
  pub body : Each RuleAtom (body_of p)
  pub head : Each RuleAtom (head_of p)
  pub body_count : length (body_of p) ≡ p.bodies
  pub head_count : length (head_of p) ≡ p.heads
  pub bodies : p.bodies + t.bodies ≡ s.bodies
  pub heads : p.heads + t.heads ≡ s.heads
  pub rule : SameRule s t

-- the parts hold all atoms of the rule, or those before the one that is wrong
pub record ReadInto (s : RuleAtoms) (r : Result (Unit {0}) AtomFault) (p : RuleParts) (t : RuleAtoms) : Type 0 where
  pub passed : Passed s p t
  pub ends : MatchResult r (λ _. (t.bodies ≡ 0) × (t.heads ≡ 0)) (λ f. (0 < t.bodies + t.heads) × AtomSays Rules s.cursor.bytes.now s.cursor.end t.cursor.place (Err f))

-- a rule begins at c, with its counts whole and right, and a is the reader of its atoms
pub record Begun (c : Cursor) (a : RuleAtoms) : Type 0 where
  pub begins : RuleBegins c.bytes.now c.end c.place
  pub moved : Past c 2 a.cursor
  pub bodies : a.bodies ≡ at c.bytes.now c.place
  pub heads : a.heads ≡ at c.bytes.now (c.place + 1)
