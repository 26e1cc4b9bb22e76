-- What a sheet shows, and what an answer with a sheet says.
use Rattle.std.specs.Prelude.{◌≡◌, ℕ, ◌≤◌, ◌⊎◌, Bool, true, false, List, ◌++◌, take}
use Rattle.rules.specs.declared.Atom.{Atom}
use Rattle.rules.specs.Logic.{Each, Formula, Implication, Universal, Existential}
use Rattle.rules.specs.Matches.{Ground, Assignment, result}
use Rattle.rules.specs.Reliances.{ShowsReliance, PositiveReliance, ShowsRestraint, Restraint as Restrained}
use Rattle.matches.specs.Lists.{look, formulas, FactAtom}
use Rattle.reliances.specs.declared.sheet.Kind.{Kind}
use Rattle.reliances.specs.declared.sheet.Kind.TheVariants.{Positive, Restraint}
use Rattle.reliances.specs.declared.sheet.Sheet.{Sheet}

-- the facts on the sheet
abbrev pub first_list : Sheet → List Atom
first_list s = take s.first_len s.first

abbrev pub second_list : Sheet → List Atom
second_list s = take s.second_len s.second

-- of at most N atoms the first n are there, and each is a fact
pub record Listed (N n : ℕ) (xs : List Atom) : Type 0 where
  pub few : n ≤ N
  pub facts : Each FactAtom (take n xs)

-- the entries that are read hold constants and nulls
abbrev pub Filled : (ℕ → Type 0) → Assignment → Type 0
Filled Read h = (v : ℕ) → Read v → Ground (h v)

-- of a rule that is only matched the universal variables' entries are read, of one that is applied the existential ones' too
abbrev pub Matched : Implication → ℕ → Type 0
Matched r v = Universal r v

abbrev pub Applied : Implication → ℕ → Type 0
Applied r v = Universal r v ⊎ Existential r v

-- the sheet shows that B positively relies on A: the first list is F, the second is empty
pub record ShowsPositive (A B : Implication) (s : Sheet) : Type 0 where
  pub few : s.first_len ≤ 11
  pub empty : s.second_len ≡ 0
  pub facts : Each FactAtom (first_list s)
  pub first : Filled (Applied A) (look s.first_rule)
  pub second : Filled (Matched B) (look s.second_rule)
  pub shows : ShowsReliance A B (formulas (first_list s)) (look s.first_rule) (look s.second_rule)

-- the facts on which the first rule is applied: the result of the second, and the second list added
abbrev pub later_facts : Implication → Sheet → List Formula
later_facts B s = result B (look s.second_rule) (formulas (first_list s)) ++ formulas (second_list s)

-- the sheet shows that A restrains B: the first list is F, and H is the result of B with the second list added
pub record ShowsRestrained (A B : Implication) (s : Sheet) : Type 0 where
  pub few : s.first_len ≤ 11
  pub fewer : s.second_len ≤ 9
  pub facts : Each FactAtom (first_list s)
  pub more : Each FactAtom (second_list s)
  pub first : Filled (Applied A) (look s.first_rule)
  pub second : Filled (Applied B) (look s.second_rule)
  pub other : Filled (Applied B) (look s.alternative)
  pub shows : ShowsRestraint A B (formulas (first_list s)) (later_facts B s) (look s.first_rule) (look s.second_rule) (look s.alternative)

-- the sheet meets the definition for its kind and the two rules
abbrev pub Shows : Kind → Implication → Implication → Sheet → Type 0
Shows Positive A B s = ShowsPositive A B s
Shows Restraint A B s = ShowsRestrained A B s

-- the relation holds: some facts and matches at all meet its definition
abbrev pub Holds : Kind → Implication → Implication → Type 0
Holds Positive A B = PositiveReliance A B
Holds Restraint A B = Restrained A B

-- an answer. A yes: the sheet shows the relation. A no: it does not hold, and the sheet is as it was
abbrev pub Answered : Bool → Kind → Implication → Implication → Sheet → Sheet → Type 0
Answered true kind A B before after = Shows kind A B after
Answered false kind A B before after = (Holds kind A B → ⊥) × (after ≡ before)
