use Rattle.std.proofs.Common.{map, take}
use Rattle.rules.specs.Logic.{formula_of}
use Rattle.rules.specs.Bounds.{MarksAre}
use Rattle.rules.proofs.marks.marks_of.Given as goal

abbrev pub invariant-loop-a : goal.invariant-loop-a
invariant-loop-a l = MarksAre (map formula_of (take l.a-index l.atoms)) l.marks
