-- The calls that a listing makes, and what is printed of each answer (below the contract of the whole).
use Rattle.std.specs.Prelude.{◌≡◌, ℕ, zero, suc, ◌+◌, List, [], ◌∷◌, ◌++◌, map, length}
use Rattle.std.specs.List.{flat_map, zip}
use Rattle.rules.specs.Logic.{Numbered}
use Rattle.reliances.specs.declared.sheet.Kind.{Kind}
use Rattle.reliances.specs.declared.sheet.Kind.TheVariants.{Positive, Restraint}
use Rattle.shelf.specs.declared.calls.Call.{Call}
use Rattle.shelf.specs.declared.calls.Call.TheVariants as call
use Rattle.shelf.specs.declared.calls.Answer.{Answer}
use Rattle.shelf.specs.declared.calls.Answer.TheVariants as answer
use Rattle.shelf.specs.Runs.{Ran}
use Rattle.lines.specs.declared.kinds.Line.TheVariants as line
use Rattle.lines.specs.Lines.{ended_text}
use Rattle.listing.specs.Listing.{line_of}

-- the numbers of rules
abbrev pub numbers : List Numbered → List ℕ
numbers rs = map (λ x. x.number) rs

-- n admissions, from index i on
abbrev pub admitting : (ℕ → Call) → ℕ → ℕ → List Call
admitting admit i zero = []
admitting admit i (suc n) = admit i ∷ admitting admit (i + 1) n

-- the questions about the rules of two numbers, about one and each of several, and about each two; then the grading
abbrev pub pair_calls : ℕ → ℕ → List Call
pair_calls a b = call.Ask Positive a b ∷ (call.Ask Restraint a b ∷ [])

abbrev pub row_calls : List ℕ → ℕ → List Call
row_calls ns a = flat_map (pair_calls a) ns

abbrev pub asking : List ℕ → List Call
asking ns = flat_map (row_calls ns) ns ++ (call.Grade ∷ [])

-- a line for each number and its grade, as far as both lists go
abbrev pub grade_lines : List ℕ → List ℕ → List ℕ
grade_lines ns gs = flat_map (λ p. ended_text (line.Grade p.0 p.1)) (zip ns gs)

-- what is printed of the answer to a question
abbrev pub answer_text : Kind → ℕ → ℕ → Answer → List ℕ
answer_text kind a b (answer.Yes sheet) = ended_text (line_of kind a b)
answer_text kind a b answer.Done = []
answer_text kind a b (answer.Refused f) = []
answer_text kind a b answer.No = []
answer_text kind a b (answer.Verified told) = []
answer_text kind a b (answer.Graded counts grades) = []

-- what is printed of a grading of the rules of these numbers
abbrev pub grading_text : List ℕ → Answer → List ℕ
grading_text ns (answer.Graded counts grades) = grade_lines ns grades
grading_text ns (answer.Refused f) = ended_text line.NoGrades
grading_text ns answer.Done = []
grading_text ns (answer.Yes sheet) = []
grading_text ns answer.No = []
grading_text ns (answer.Verified told) = []

-- what is printed of the answer to a call
abbrev pub text_of : List ℕ → Call → Answer → List ℕ
text_of ns (call.Ask kind a b) x = answer_text kind a b x
text_of ns call.Grade x = grading_text ns x
text_of ns (call.Admit volume i) x = []
text_of ns (call.Withdraw n) x = []
text_of ns (call.Verify kind a b sheet) x = []

-- what is printed of all answers, as far as both lists go
abbrev pub all_texts : List ℕ → List Call → List Answer → List ℕ
all_texts ns cs xs = flat_map (λ p. text_of ns p.0 p.1) (zip cs xs)

-- the text is what is printed of the calls, each answered on a new shelf
abbrev pub RunPrinted : List ℕ → List Call → List ℕ → Type 0
RunPrinted ns cs text = (before answers : List Answer) × (length before ≡ length cs) × Ran cs (length cs) before answers × (text ≡ all_texts ns cs answers)
