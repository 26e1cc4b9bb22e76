use Rattle.std.proofs.Common.{◌≡◌, take}
use Rattle.std.specs.List.{filter}
use Rattle.rules.specs.Logic.{Each}
use Rattle.rules.specs.Rules.{meaning}
use Rattle.matches.specs.Lists.{formulas}
use Rattle.reliances.specs.Following.{Small}
use Rattle.reliances.specs.RestraintSearch.{opens?}
use Rattle.reliances.proofs.asking.open_atoms.Given as goal

abbrev pub invariant-loop-a : goal.invariant-loop-a
invariant-loop-a l = (formulas l.open.items ≡ filter (opens? (meaning l.rule)) (formulas (take l.a-index l.a-items))) × Each Small l.open.items
