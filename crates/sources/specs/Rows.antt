-- Which rows a table takes up, and what is wrong with others.
use Rattle.std.specs.Prelude.{◌≡◌, ℕ, ◌<◌, ◌≤◌, List, [], length, take, Ok, Err, Result}
use Rattle.rules.specs.declared.Atom.{Atom}
use Rattle.rules.specs.Logic.{Each, Formula}
use Rattle.faults.specs.declared.source.SourceFault.{SourceFault}
use Rattle.faults.specs.declared.source.SourceFault.TheVariants.{TooManyRows, WrongRow}
use Rattle.matches.specs.Lists.{formulas, FactAtom}
use Rattle.volumes.specs.Answers.{Nth}

-- the rows are at most 4,096, and each is a fact
pub record RowsPass (rows : List Atom) : Type 0 where
  pub few : length rows ≤ 4096
  pub facts : Each FactAtom rows

-- f is the first fault of the rows
pub data RowsWrong (rows : List Atom) (f : SourceFault) : Type 0 where
  too_many : 4096 < length rows → f ≡ TooManyRows (length rows) → RowsWrong rows f
  wrong_row : length rows ≤ 4096 → (i : ℕ) → Each FactAtom (take i rows) → (row : Atom) → Nth rows i row → (FactAtom row → ⊥) → f ≡ WrongRow i → RowsWrong rows f

-- what the check of the rows answers
abbrev pub RowsSay : List Atom → Result (Unit {0}) SourceFault → Type 0
RowsSay rows (Ok x) = RowsPass rows
RowsSay rows (Err f) = RowsWrong rows f

-- F are the facts of the rows, or none where the rows do not pass
pub record RowsTaken (rows : List Atom) (F : List Formula) : Type 0 where
  pub passed : RowsPass rows → F ≡ formulas rows
  pub failed : (RowsPass rows → ⊥) → F ≡ []
