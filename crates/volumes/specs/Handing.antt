-- What the items of a rule's reader are, taken together.
use Rattle.std.specs.Prelude.{◌≡◌, ℕ, ◌+◌, Bool, true, false, List, [], ◌∷◌, ◌++◌, length, take, drop, Some, None, Option, Ok, Err}
use Rattle.rules.specs.Logic.{Formula, Implication, formula_of}
use Rattle.volumes.specs.declared.kind.VolumeKind.TheVariants.{Rules}
use Rattle.faults.specs.declared.AtomFault.{AtomFault}
use Rattle.volumes.specs.declared.items.RuleAtoms.{RuleAtoms}
use Rattle.volumes.specs.declared.items.Placed.{Placed}
use Rattle.volumes.specs.declared.items.Item.{Item}
use Rattle.volumes.specs.declared.items.Item.TheVariants.{Body, Head}
use Rattle.volumes.specs.Layout.{AtomsSay, span}
use Rattle.volumes.specs.Items.{Hands}

-- an atom as it is handed out: of the head or not, what it means, its bytes, and the place of the first of them
pub record Seen : Type 0 where
  pub in_head : Bool
  pub formula : Formula
  pub bytes : List ℕ
  pub place : ℕ

abbrev pub seen_as : Bool → Placed → Seen
seen_as b x = record { in_head = b; formula = formula_of x.atom; bytes = x.bytes.now; place = x.place }

-- an end shows nothing
abbrev pub seen : List (Option Item) → List Seen
seen [] = []
seen (Some (Body x) ∷ xs) = seen_as false x ∷ seen xs
seen (Some (Head x) ∷ xs) = seen_as true x ∷ seen xs
seen (None ∷ xs) = seen xs

-- the atoms one after another in the bytes, the first at p
abbrev pub laid_out : List ℕ → Bool → ℕ → List Formula → List Seen
laid_out bs b p [] = []
laid_out bs b p (a ∷ rest) =
    record { in_head = b; formula = a; bytes = take (span a) (drop p bs); place = p } ∷ laid_out bs b (p + span a) rest

-- where atoms end that begin at p
abbrev pub spans : ℕ → List Formula → ℕ
spans p [] = p
spans p (a ∷ rest) = spans (p + span a) rest

-- the items xs are handed out one after another, and the reader goes from s to t
abbrev pub Chain : RuleAtoms → List (Option Item) → RuleAtoms → Type 0
Chain s [] t = s ≡ t
Chain s (x ∷ xs) t = (u : RuleAtoms) × Hands s (Ok x) u × Chain u xs t

-- what is left to the reader is the rule's body and head
pub record Left (s : RuleAtoms) (r : Implication) : Type 0 where
  pub bodies : s.bodies ≡ length r.body
  pub heads : s.heads ≡ length r.head
  pub atoms : AtomsSay Rules s.cursor.bytes.now s.cursor.end s.cursor.place (length (r.body ++ r.head)) (Ok (r.body ++ r.head, s.cursor.end))

-- the reader hands out exactly the rule's atoms, with their bytes and places, and meets no fault
pub record HandsOut (s : RuleAtoms) (r : Implication) : Type 0 where
  pub all : (xs : List (Option Item)) (t : RuleAtoms) → Chain s xs t → t.bodies ≡ 0 → t.heads ≡ 0 → seen xs ≡ laid_out s.cursor.bytes.now false s.cursor.place r.body ++ laid_out s.cursor.bytes.now true (spans s.cursor.place r.body) r.head
  pub no_fault : (xs : List (Option Item)) (t u : RuleAtoms) (f : AtomFault) → Chain s xs t → Hands t (Err f) u → ⊥
