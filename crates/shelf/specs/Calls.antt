-- What the calls on a shelf answer.
use Rattle.std.specs.Prelude.{◌≡◌, ℕ, ◌≤◌, Bool, true, false, List, ◌++◌, map, length, drop, Ok, Err, Result, Decides}
use Rattle.faults.specs.declared.shelf.ShelfFault.{ShelfFault}
use Rattle.faults.specs.declared.shelf.ShelfFault.TheVariants.{NoNumbering}
use Rattle.rules.specs.Logic.{Each, Implication, Numbered}
use Rattle.rules.specs.Reliances.{Keeps}
use Rattle.reliances.specs.declared.sheet.Kind.{Kind}
use Rattle.reliances.specs.declared.sheet.Kind.TheVariants.{Positive, Restraint}
use Rattle.reliances.specs.declared.sheet.Sheet.{Sheet}
use Rattle.reliances.specs.Sheets.{Shows, Holds}
use Rattle.grades.specs.Pairs.{PairCount}
use Rattle.shelf.specs.declared.grading.PairCounts.{PairCounts}
use Rattle.shelf.specs.Held.{both_under}

-- a yes says that the relation holds, and the sheet shows it; a no says that it does not, whatever the facts, and the sheet is
-- as it was
pub record Asked (kind : Kind) (A B : Implication) (told : Bool) (before after : Sheet) : Type 0 where
  pub holds : Decides told (Holds kind A B)
  pub shown : told ≡ true → Shows kind A B after
  pub kept : told ≡ false → after ≡ before

-- what is answered about the two rules, or the refusal for want of one, with the sheet as it was
abbrev pub AskSays : Kind → Result (Implication × Implication) ShelfFault → Result Bool ShelfFault → Sheet → Sheet → Type 0
AskSays kind (Ok rules) (Ok told) before after = Asked kind rules.0 rules.1 told before after
AskSays kind (Ok rules) (Err f) before after = ⊥
AskSays kind (Err e) (Ok told) before after = ⊥
AskSays kind (Err e) (Err f) before after = (f ≡ e) × (after ≡ before)

-- a yes says that the sheet meets the definition, and then the relation holds
pub record Verified (kind : Kind) (A B : Implication) (sheet : Sheet) (told : Bool) : Type 0 where
  pub shown : Decides told (Shows kind A B sheet)
  pub holds : told ≡ true → Holds kind A B

abbrev pub VerifySays : Kind → Sheet → Result (Implication × Implication) ShelfFault → Result Bool ShelfFault → Type 0
VerifySays kind sheet (Ok rules) (Ok told) = Verified kind rules.0 rules.1 sheet told
VerifySays kind sheet (Ok rules) (Err f) = ⊥
VerifySays kind sheet (Err e) (Ok told) = ⊥
VerifySays kind sheet (Err e) (Err f) = f ≡ e

-- rules are held under both numbers, and the relation holds between them
abbrev pub Related : Kind → List Numbered → ℕ → ℕ → Type 0
Related kind rs a b = (A B : Implication) × (both_under rs a b ≡ Ok (A, B)) × Holds kind A B

-- a numbering that keeps the reliances of the rules held; of all that do, none has a lower number anywhere
pub record LeastNumbering (rs : List Numbered) (grade : ℕ → ℕ) : Type 0 where
  pub keeps : Keeps rs grade
  pub least : (other : ℕ → ℕ) → Keeps rs other → Each (λ x. grade x.number ≤ other x.number) rs

-- the list has the least numbering of the rules held, by rising rule number, and then what it had; and the ordered pairs are
-- counted, a rule with itself too
pub record Graded (rs : List Numbered) (counts : PairCounts) (before after : List ℕ) : Type 0 where
  pub grade : ℕ → ℕ
  pub least : LeastNumbering rs grade
  pub list : after ≡ map (λ x. grade x.number) rs ++ drop (length rs) before
  pub reliances : PairCount (Related Positive rs) counts.reliances
  pub restraints : PairCount (Related Restraint rs) counts.restraints

-- a grading, or refusal 22 exactly where no numbering keeps the reliances, with the list as it was
abbrev pub GradeSays : List Numbered → Result PairCounts ShelfFault → List ℕ → List ℕ → Type 0
GradeSays rs (Ok counts) before after = Graded rs counts before after
GradeSays rs (Err f) before after = (f ≡ NoNumbering) × ((grade : ℕ → ℕ) → Keeps rs grade → ⊥) × (after ≡ before)
