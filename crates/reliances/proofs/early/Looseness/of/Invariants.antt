use Rattle.std.proofs.Common.{◌*◌, ◌≤◌, length, take}
use Rattle.rules.specs.Bounds.{flags}
use Rattle.rules.specs.Logic.{terms_of}
use Rattle.matches.specs.Lists.{formulas}
use Rattle.reliances.specs.RestraintSearch.{AreLoose}
use Rattle.reliances.proofs.early.Looseness.of.Given as goal

abbrev pub invariant-loop-a : goal.invariant-loop-a
invariant-loop-a l =
    (length l.nulls.items ≤ 4 * l.a-index)
    × AreLoose (flags l.self.rigid.now) (formulas l.self.before.now) (terms_of (formulas (take l.a-index l.atoms))) l.nulls.items
