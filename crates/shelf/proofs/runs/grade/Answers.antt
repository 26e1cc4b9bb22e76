use Rattle.std.proofs.Common.{refl}
use Rattle.shelf.specs.Runs.{graded}
use Rattle.shelf.proofs.runs.grade.Goals as goal

pub returns-in-Ok : goal.returns-in-Ok
returns-in-Ok c = graded c.in-Ok.counts c.grade.new.grades refl c.in-Ok.ensures
