use Rattle.std.proofs.Common.{◌≡◌, ◌++◌, map, take}
use Rattle.reliances.proofs.lists.push_each.Given as goal

abbrev pub invariant-loop-a : goal.invariant-loop-a
invariant-loop-a g l = l.into.items ≡ l.initial.into.items ++ map (g.R.Reading.gives l.reading) (take l.a-index l.atoms)
