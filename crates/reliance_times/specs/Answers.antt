-- What an answer says, and what is printed of it.
use Rattle.std.specs.Prelude.{ℕ, List, ◌++◌, codes, decimal}
use Rattle.rules.specs.Logic.{Implication}
use Rattle.reliances.specs.declared.sheet.Kind.{Kind}
use Rattle.reliances.specs.declared.sheet.Kind.TheVariants.{Positive, Restraint}
use Rattle.reliances.specs.Sheets.{Holds}
use Rattle.reliance_times.specs.declared.asked.Answer.{Answer}
use Rattle.reliance_times.specs.declared.asked.Answer.TheVariants.{No, Yes, Unshown}

-- the answer is right: the relation holds where it is a yes, and does not where it is a no. A yes that its sheet does not
-- show is never right
abbrev pub Right : Answer → Kind → Implication → Implication → Type 0
Right No kind A B = Holds kind A B → ⊥
Right Yes kind A B = Holds kind A B
Right Unshown kind A B = ⊥

abbrev pub answer_text : Answer → List ℕ
answer_text No = codes "0"
answer_text Yes = codes "1"
answer_text Unshown = codes "!"

abbrev pub kind_text : Kind → List ℕ
kind_text Positive = codes "P"
kind_text Restraint = codes "R"

-- the two rules' numbers, and the letter of the relation
abbrev pub asked_text : ℕ → ℕ → Kind → List ℕ
asked_text first second kind = decimal first ++ (codes " " ++ (decimal second ++ (codes " " ++ kind_text kind)))
