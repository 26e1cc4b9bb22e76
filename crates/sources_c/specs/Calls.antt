-- What the calls answer, by the definitions of `sources`.
use Rattle.std.specs.Prelude.{◌≡◌, ℕ, ◌+◌, ◌-◌, ◌<◌, ◌≤◌, Bool, cond, List, [], ◌++◌, map, length, take, min, Ok, Err, Result, slice_index_or}
use Rattle.rules.specs.declared.Atom.{Atom}
use Rattle.rules.specs.declared.rule.Rule.{Rule}
use Rattle.rules.specs.Logic.{Formula, Implication, Numbered, formula_of}
use Rattle.rules.specs.Rules.{meaning}
use Rattle.faults.specs.declared.source.SourceFault.{SourceFault}
use Rattle.faults.specs.Sources.{source_number, source_place}
use Rattle.matches.specs.Lists.{look}
use Rattle.volumes.specs.Answers.{Nth}
use Rattle.sources.specs.declared.piles.Application.{Application}
use Rattle.sources.specs.Rows.{RowsSay, RowsTaken}
use Rattle.sources.specs.Finding.{Found}
use Rattle.sources.specs.Applying.{ApplyAnswer}
use Rattle.sources.specs.Piles.{OwnAfter}
use Rattle.sources_c.specs.declared.plain.PlainAtom.{PlainAtom}
use Rattle.sources_c.specs.declared.plain.Given.{Given}
use Rattle.sources_c.specs.declared.plain.Lent.{Lent}
use Rattle.sources_c.specs.declared.plain.Own.{Own}
use Rattle.sources_c.specs.declared.plain.Told.{Told}
use Rattle.sources_c.specs.Plain.{atom_of, given_of, blank}

-- a refusal is told by its number and its place, and none by 0 and 0
abbrev pub Tells : Result (Unit {0}) SourceFault → Told → Type 0
Tells (Ok x) t = (t.number ≡ 0) × (t.place ≡ 0)
Tells (Err f) t = (t.number ≡ source_number f) × (t.place ≡ source_place f)

-- what is told is what the check of the rows answers
abbrev pub RowsTold : List Atom → Told → Type 0
RowsTold rows t = (r : Result (Unit {0}) SourceFault) × RowsSay rows r × Tells r t

-- a search for an unsatisfied match of r on F answers 1 for yes and 0 for no, and what is lent is then as `find` says
abbrev pub Searched : Implication → List Formula → Lent → ℕ → Lent → Type 0
Searched r F before n after =
    (b : Bool) × (n ≡ cond b 1 0) × Found r F before.stack (given_of before.found) b after.stack (given_of after.found)

-- the first rule is searched on the table of the rows; where there is none, the answer is 2 and what is lent stays
pub data FindSays (rows : List Atom) (rs : List Numbered) (before : Lent) (n : ℕ) (after : Lent) : Type 0 where
  searched : (F : List Formula) → RowsTaken rows F → (x : Numbered) → Nth rs 0 x → Searched x.rule F before n after → FindSays rows rs before n after
  no_rule : length rs ≤ 0 → n ≡ 2 → after ≡ before → FindSays rows rs before n after

-- what is told is what an application of the first rule on the table of the rows answers, or 14 where there is no rule
pub data ApplySays (rows : List Atom) (rs : List Numbered) (given : Given) (t : Told) : Type 0 where
  applied : (F : List Formula) → RowsTaken rows F → (x : Numbered) → Nth rs 0 x → (r : Result (Unit {0}) SourceFault) (own : List Formula) → ApplyAnswer x.rule (look (given_of given)) F [] r own → Tells r t → ApplySays rows rs given t
  no_rule : length rs ≤ 0 → t.number ≡ 14 → t.place ≡ 0 → ApplySays rows rs given t

-- the fact of index i, or a blank atom where there are not so many
pub data PlainFact (F : List Formula) (i : ℕ) (a : PlainAtom) : Type 0 where
  fact : Nth F i (formula_of (atom_of a)) → PlainFact F i a
  none : length F ≤ i → atom_of a ≡ blank → PlainFact F i a

-- the facts of F from index i on, four at most
pub record FactsFrom (F : List Formula) (i : ℕ) (o : Own) : Type 0 where
  pub count : o.count ≡ min (length F - i) 4
  pub each : (k : ℕ) → k < o.count → (d : PlainAtom) → Nth F (i + k) (formula_of (atom_of (slice_index_or o.atoms k d)))

-- a call of the rule by what it gives the variables
abbrev pub call : Rule → Given → Application
call r g = record { rule = r; found = given_of g }

-- calls of the rule r by what they give the variables, four at most
abbrev pub calls_of : Rule → List Given → List Application
calls_of r gs = take 4 (map (call r) gs)

-- the addition's own facts after calls of the first rule on the table of the rows; then the second rule is searched on all
pub record After (rows : List Atom) (rs : List Numbered) (gs : List Given) (before : Lent) (n : ℕ) (after : Lent) (o : Own) : Type 0 where
  pub below : List Formula
  pub taken : RowsTaken rows below
  pub applied : Rule
  pub number : ℕ
  pub first : Nth rs 0 (record { number = number; rule = meaning applied })
  pub found : Numbered
  pub second : Nth rs 1 found
  pub own : List Formula
  pub after_calls : OwnAfter below (calls_of applied gs) own
  pub told : FactsFrom (below ++ own) (length below) o
  pub searched : Searched found.rule (below ++ own) before n after

-- the same, or where there are fewer than two rules the answer 2, and what is lent stays
pub data AfterSays (rows : List Atom) (rs : List Numbered) (gs : List Given) (before : Lent) (own_before : Own) (n : ℕ) (after : Lent) (own_after : Own) : Type 0 where
  searched : After rows rs gs before n after own_after → AfterSays rows rs gs before own_before n after own_after
  no_rule : length rs ≤ 1 → n ≡ 2 → after ≡ before → own_after ≡ own_before → AfterSays rows rs gs before own_before n after own_after
