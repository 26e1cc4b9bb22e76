-- What is printed of a rule volume.
use Rattle.std.specs.Prelude.{◌≡◌, ℕ, List, [], ◌∷◌, ◌++◌, Ok, Err}
use Rattle.std.specs.List.{flat_map}
use Rattle.faults.specs.declared.Fault.{Fault}
use Rattle.rules.specs.Logic.{Numbered}
use Rattle.rules.specs.Reliances.{Keeps}
use Rattle.reliances.specs.declared.sheet.Kind.{Kind}
use Rattle.reliances.specs.declared.sheet.Kind.TheVariants.{Positive, Restraint}
use Rattle.reliances.specs.Sheets.{Holds}
use Rattle.volumes.specs.Layout.{RuleVolumeSays}
use Rattle.shelf.specs.Calls.{LeastNumbering}
use Rattle.lines.specs.declared.kinds.Line.{Line}
use Rattle.lines.specs.declared.kinds.Line.TheVariants as line
use Rattle.lines.specs.Lines.{ended_text}

-- the line that says that the relation holds between the rules of two numbers
abbrev pub line_of : Kind → ℕ → ℕ → Line
line_of Positive a b = line.Positive a b
line_of Restraint a b = line.Restraint a b

-- whether the relation holds between two rules
pub record Question : Type 0 where
  pub kind : Kind
  pub first : Numbered
  pub second : Numbered

-- of two rules, whether the second positively relies on the first, and then whether the first restrains the second
abbrev pub of_pair : Numbered → Numbered → List Question
of_pair a b = record { kind = Positive; first = a; second = b } ∷ (record { kind = Restraint; first = a; second = b } ∷ [])

-- for each first rule, and for each second rule
abbrev pub questions : List Numbered → List Question
questions rs = flat_map (λ a. flat_map (of_pair a) rs) rs

-- a line where the relation holds, and nothing where it does not
pub data Answers (q : Question) (text : List ℕ) : Type 0 where
  holds : Holds q.kind q.first.rule q.second.rule → text ≡ ended_text (line_of q.kind q.first.number q.second.number) → Answers q text
  denied : (Holds q.kind q.first.rule q.second.rule → ⊥) → text ≡ [] → Answers q text

-- the texts of the elements, one after another
abbrev pub Texts : {A : Type 0} → (A → List ℕ → Type 0) → List A → List ℕ → Type 0
Texts Is [] text = text ≡ []
Texts Is (x ∷ xs) text = (this rest : List ℕ) × (text ≡ this ++ rest) × Is x this × Texts Is xs rest

-- a line for each rule, with its number in the least numbering; or one line, where no numbering keeps the reliances
pub data Grades (rs : List Numbered) (text : List ℕ) : Type 0 where
  graded : (grade : ℕ → ℕ) → LeastNumbering rs grade → text ≡ flat_map (λ x. ended_text (line.Grade x.number (grade x.number))) rs → Grades rs text
  none : ((grade : ℕ → ℕ) → Keeps rs grade → ⊥) → text ≡ ended_text line.NoGrades → Grades rs text

-- the lines of the relations, and then those of the grades
pub record Listed (rs : List Numbered) (text : List ℕ) : Type 0 where
  pub relations : List ℕ
  pub grades : List ℕ
  pub is : text ≡ relations ++ grades
  pub answers : Texts Answers (questions rs) relations
  pub grading : Grades rs grades

-- what is printed of bytes: the listing of the rules that they are the volume of, or the line of their first fault
pub data Printed (bs : List ℕ) (text : List ℕ) : Type 0 where
  listed : (rs : List Numbered) → RuleVolumeSays bs (Ok rs) → Listed rs text → Printed bs text
  declined : (f : Fault) → RuleVolumeSays bs (Err f) → text ≡ ended_text (line.Declined f) → Printed bs text
