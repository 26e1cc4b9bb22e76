-- What the program prints.
use Rattle.std.specs.Prelude.{ℕ, cond, List, ◌++◌, Ok, Err, codes, Result, ◌==◌}
use Rattle.faults.specs.declared.Fault.{Fault}
use Rattle.faults.specs.Faults.{fault_text}
use Rattle.volumes.specs.Layout.{at}
use Rattle.volumes.specs.Reading.{read_rules, read_facts}
use Rattle.volumes.specs.Text.{rules_text, facts_text}

-- the lines of what a volume holds, or the line of its fault
abbrev pub answer_text : {A : Type 0} → (List A → List ℕ) → Result (List A) Fault → List ℕ
answer_text lines (Ok xs) = lines xs
answer_text lines (Err f) = fault_text f ++ codes "\n"

-- a volume whose first byte is 2 is a fact volume, any other a rule volume; `read_rules` and `read_facts` give the one
-- answer that the layout allows
abbrev pub volume_text : List ℕ → List ℕ
volume_text bs = cond (at bs 0 == 2) (answer_text facts_text (read_facts bs)) (answer_text rules_text (read_rules bs))
