-- What the reader of a rule's atoms hands out, and how it then stands.
use Rattle.std.specs.Prelude.{◌≡◌, ◌+◌, ◌<◌, take, drop, Some, None, Option, Ok, Err, Result}
use Rattle.rules.specs.Logic.{formula_of}
use Rattle.rules.specs.Bounds.{RuleAtom}
use Rattle.volumes.specs.declared.kind.VolumeKind.TheVariants.{Rules}
use Rattle.faults.specs.declared.AtomFault.{AtomFault}
use Rattle.volumes.specs.declared.items.RuleAtoms.{RuleAtoms}
use Rattle.volumes.specs.declared.items.Placed.{Placed}
use Rattle.volumes.specs.declared.items.Item.{Item}
use Rattle.volumes.specs.declared.items.Item.TheVariants.{Body, Head}
use Rattle.volumes.specs.Layout.{AtomSays, span}

-- the reader reads the same rule
pub record SameRule (s t : RuleAtoms) : Type 0 where
  pub bytes : t.cursor.bytes.now ≡ s.cursor.bytes.now
  pub end : t.cursor.end ≡ s.cursor.end

-- the reader has not moved
pub record Unmoved (s t : RuleAtoms) : Type 0 where
  pub rule : SameRule s t
  pub place : t.cursor.place ≡ s.cursor.place
  pub bodies : t.bodies ≡ s.bodies
  pub heads : t.heads ≡ s.heads

-- the atom x stands where the reader stood, has the bytes there, and the reader has moved past it
pub record Handed (s : RuleAtoms) (x : Placed) (t : RuleAtoms) : Type 0 where
  pub stands : AtomSays Rules s.cursor.bytes.now s.cursor.end s.cursor.place (Ok (formula_of x.atom))
  pub allowed : RuleAtom x.atom
  pub bytes : x.bytes.now ≡ take (span (formula_of x.atom)) (drop s.cursor.place s.cursor.bytes.now)
  pub place : x.place ≡ s.cursor.place
  pub rule : SameRule s t
  pub past : t.cursor.place ≡ s.cursor.place + span (formula_of x.atom)

-- the next item of s is r, none at its end, and t is how the reader then stands: after an end or a fault, as it stood
abbrev pub Hands : RuleAtoms → Result (Option Item) AtomFault → RuleAtoms → Type 0
Hands s (Ok (Some (Body x))) t = Handed s x t × (s.bodies ≡ t.bodies + 1) × (t.heads ≡ s.heads)
Hands s (Ok (Some (Head x))) t = Handed s x t × (s.bodies ≡ 0) × (t.bodies ≡ 0) × (s.heads ≡ t.heads + 1)
Hands s (Ok None) t = Unmoved s t × (s.bodies ≡ 0) × (s.heads ≡ 0)
Hands s (Err f) t = Unmoved s t × (0 < s.bodies + s.heads) × AtomSays Rules s.cursor.bytes.now s.cursor.end s.cursor.place (Err f)
