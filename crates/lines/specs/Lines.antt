-- The text of each line, and what a buffer holds once it is put there.
use Rattle.std.specs.Prelude.{ℕ, List, ◌++◌, length, drop, codes, decimal}
use Rattle.faults.specs.Faults.{fault_text}
use Rattle.lines.specs.declared.kinds.Line.{Line}
use Rattle.lines.specs.declared.kinds.Line.TheVariants.{Positive, Restraint, Grade, NoGrades, Declined}

-- a letter, a space, a number, a space, a number
abbrev pub two_numbers : List ℕ → ℕ → ℕ → List ℕ
two_numbers letter a b = letter ++ (codes " " ++ (decimal a ++ (codes " " ++ decimal b)))

-- the text of a line, as P 2 5
abbrev pub line_text : Line → List ℕ
line_text (Positive first second) = two_numbers (codes "P") first second
line_text (Restraint first second) = two_numbers (codes "R") first second
line_text (Grade rule grade) = two_numbers (codes "G") rule grade
line_text NoGrades = codes "G -"
line_text (Declined fault) = fault_text fault

-- the text with the newline that ends it
abbrev pub ended_text : Line → List ℕ
ended_text l = line_text l ++ codes "\n"

-- the text stands at the start of the buffer, and the rest of the buffer is as it was
abbrev pub over : List ℕ → List ℕ → List ℕ
over text buffer = text ++ drop (length text) buffer
