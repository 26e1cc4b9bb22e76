-- What is known at a node of either search, by its kind (below the public contracts).
use Rattle.std.specs.Prelude.{◌≡◌, ℕ, ◌<◌, Bool, true, false, List, length}
use Rattle.rules.specs.Bounds.{flags}
use Rattle.rules.specs.declared.Atom.{Atom}
use Rattle.rules.specs.declared.rule.Rule.{Rule}
use Rattle.rules.specs.Logic.{Formula, Implication}
use Rattle.rules.specs.Rules.{meaning}
use Rattle.matches.specs.Lists.{formulas}
use Rattle.reliances.specs.declared.sheet.Kind.{Kind}
use Rattle.reliances.specs.declared.sheet.Kind.TheVariants.{Positive, Restraint}
use Rattle.reliances.specs.declared.search.Sight.{Sight}
use Rattle.reliances.specs.declared.search.Sight.TheVariants.{Found, Shut, Next}
use Rattle.reliances.specs.declared.sheet.Sheet.{Sheet}
use Rattle.reliances.specs.Unification.{Subst, rigid?, rigid_both}
use Rattle.reliances.specs.Following.{Node}
use Rattle.reliances.specs.PositiveSearch as positive
use Rattle.reliances.specs.RestraintSearch as restraint
use Rattle.reliances.specs.Sheets.{Shows}

-- the atoms of B that a search goes through: its body, or its head as an alternative reads it
abbrev pub gone : Kind → Implication → List Formula
gone Positive B = B.body
gone Restraint B = restraint.shifted B

-- the slots that keep their nulls: those of the existential variables of the rules that are applied
abbrev pub rigid_for : Kind → Implication → Implication → ℕ → Bool
rigid_for Positive A B = rigid? A
rigid_for Restraint A B = rigid_both A B

-- some facts and matches that show the relation follow the search to the node
abbrev pub Follows : Kind → Implication → Implication → (ℕ → Bool) → Subst → List Formula → Type 0
Follows Positive A B rigid σ old = positive.Followed A B rigid σ old
Follows Restraint A B rigid σ old = restraint.Followed A B rigid σ old

-- no facts and matches follow the search to the node
abbrev pub Deserted : Kind → Rule → Rule → List Bool → Subst → List Atom → Type 0
Deserted kind A B rigid σ old = Follows kind (meaning A) (meaning B) (flags rigid) σ (formulas old) → ⊥

-- what is seen at a node: the sheet shows the relation; or no facts and matches follow; or one of the atoms that remain is next.
-- The sheet is as it was but where it shows the relation
abbrev pub Seen : Sight → Kind → Rule → Rule → List Bool → Subst → List Atom → List Atom → Sheet → Sheet → Type 0
Seen Found kind A B rigid σ old rest before after = Shows kind (meaning A) (meaning B) after
Seen Shut kind A B rigid σ old rest before after = Deserted kind A B rigid σ old × (after ≡ before)
Seen (Next i) kind A B rigid σ old rest before after = (i < length rest) × (after ≡ before)

-- the way leads to a node of the search
abbrev pub OnWay : Kind → Rule → Rule → List Bool → Subst → List Atom → List Atom → Type 0
OnWay kind A B rigid σ old rest = Node (meaning A).head (gone kind (meaning B)) rigid σ old rest

-- an answer of the search from a node on. A yes: the sheet shows the relation. A no: no facts and matches follow, and the sheet
-- is as it was
abbrev pub Searched : Bool → Kind → Rule → Rule → List Bool → Subst → List Atom → Sheet → Sheet → Type 0
Searched true kind A B rigid σ old before after = Shows kind (meaning A) (meaning B) after
Searched false kind A B rigid σ old before after = Deserted kind A B rigid σ old × (after ≡ before)
