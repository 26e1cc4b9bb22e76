use Rattle.std.proofs.Common.{◌≡◌, ◌++◌, take}
use Rattle.std.specs.List.{flat_map, zip}
use Rattle.lines.specs.declared.kinds.Line.TheVariants.{Grade}
use Rattle.lines.specs.Lines.{ended_text}
use Rattle.listing.proofs.printed.push_grades.Given as goal

abbrev pub invariant-loop-i : goal.invariant-loop-i
invariant-loop-i l = l.text.items ≡ l.initial.text.items ++ flat_map (λ p. ended_text (Grade p.0 p.1)) (take l.i (zip l.numbers l.grades))
