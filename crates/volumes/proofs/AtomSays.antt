-- An atom that is read in a rule is one that stands there and that a rule may have.
use Rattle.std.proofs.Common.{◌≡◌, ℕ, ◌+◌, ◌-◌, ◌*◌, ◌≤◌, List, [], ◌∷◌, length, take, drop, Ok, Result, sym, ap, ◌∙◌, subst, inl, inr, arith}
use Rattle.rules.specs.declared.Term.{Term}
use Rattle.rules.specs.declared.Term.TheVariants.{Constant, Variable, Null}
use Rattle.rules.specs.declared.Atom.{Atom}
use Rattle.rules.specs.Logic.{Each, Formula, formula_of}
use Rattle.rules.specs.Bounds.{Plain, RuleAtom}
use Rattle.volumes.specs.declared.kind.VolumeKind.TheVariants.{Rules, Facts}
use Rattle.faults.specs.declared.AtomFault.{AtomFault}
use Rattle.volumes.specs.declared.items.RuleAtoms.{RuleAtoms}
use Rattle.volumes.specs.declared.items.Placed.{Placed}
use Rattle.volumes.specs.Sequence.{Stand}
use Rattle.volumes.specs.Layout.{TermAt, TermSays, AtomSays, span}
use Rattle.volumes.specs.Reading.{read_atom}
use Rattle.volumes.specs.Items.{Handed}
use Rattle.volumes.specs.Moves.{Past}
use Rattle.volumes.proofs.Atoms.{atom_right}

-- what holds of each thing that may stand holds of all that do
pub stand_each : {A E : Type 0} (Is : ℕ → ℕ → Result A E → Type 0) (next : ℕ → ℕ → A → ℕ) (P : A → Type 0) → ((i p : ℕ) (x : A) → Is i p (Ok x) → P x) → (i p : ℕ) (xs : List A) (q : ℕ) → Stand Is next i p xs q → Each P xs
stand_each Is next P f i p [] q s y h = absurd h
stand_each Is next P f i p (x ∷ xs) q s y (inl e) = subst P (sym e) (f i p x s.0)
stand_each Is next P f i p (x ∷ xs) q s y (inr h) = stand_each Is next P f (i + 1) (next i p x) xs q s.1 y h

rules_not_facts : Rules ≡ Facts → ⊥
rules_not_facts e = let z : ◌≡◌ {A = ℕ} 0 1 = cc in omega arith

term_plain : (bs : List ℕ) (p : ℕ) (t : Term) → TermAt Rules bs p t → Plain t
term_plain bs p (Constant n) h = tt
term_plain bs p (Variable n) h = h.3
term_plain bs p (Null n) h = rules_not_facts h.0

module _ (bs : List ℕ) (e p : ℕ) where
  pub atom_says : (r : Result Formula AtomFault) → read_atom Rules bs e p ≡ r → AtomSays Rules bs e p r
  atom_says r is = subst (AtomSays Rules bs e p) is (atom_right Rules bs e p)

  -- the terms of a rule's atom are constants and variables 0 to 11
  pub atom_plain : (a : Formula) → AtomSays Rules bs e p (Ok a) → Each Plain a.terms
  atom_plain a h =
      stand_each (λ _ q t. TermSays Rules bs e q t) (λ _ q _. q + 3) Plain (λ _ q t s. term_plain bs q t s.1) 0 (p + 3) a.terms _ h.terms.1

  pub atom_allowed : (a : Atom) → read_atom Rules bs e p ≡ Ok (formula_of a) → 1 ≤ a.arity → a.arity ≤ 4 → RuleAtom a
  atom_allowed a is some few = record { some = some; few = few; plain = atom_plain (formula_of a) (atom_says _ is) }

-- the reader has moved from s to t past the atom that it read
pub handed_here : (s t : RuleAtoms) (x : Placed) → read_atom Rules s.cursor.bytes.now s.cursor.end s.cursor.place ≡ Ok (formula_of x.atom) → Past s.cursor (3 + 3 * x.atom.arity) t.cursor → (1 ≤ x.atom.arity) × (x.atom.arity ≤ 4) × (length (formula_of x.atom).terms ≡ x.atom.arity) → x.place ≡ s.cursor.place → x.bytes.now ≡ take (t.cursor.place - s.cursor.place) (drop s.cursor.place s.cursor.bytes.now) → Handed s x t
handed_here s t x is moved formed place part =
    let n = formed.2 in
    let next = moved.place in
    let long : t.cursor.place - s.cursor.place ≡ span (formula_of x.atom) = omega arith in
    record {
      stands = atom_says s.cursor.bytes.now s.cursor.end s.cursor.place (Ok (formula_of x.atom)) is;
      allowed = atom_allowed s.cursor.bytes.now s.cursor.end s.cursor.place x.atom is formed.0 formed.1;
      bytes = part ∙ ap (λ k. take k (drop s.cursor.place s.cursor.bytes.now)) long;
      place = place;
      rule = record { bytes = moved.bytes; end = moved.end };
      past = omega arith;
    }
