use Rattle.std.proofs.Common.{◌+◌, ◌≤◌, ◌++◌, List, length, take}
use Rattle.rules.specs.declared.Term.{Term}
use Rattle.rules.specs.Bounds.{flags}
use Rattle.matches.specs.Lists.{formulas}
use Rattle.reliances.specs.RestraintSearch.{AreLoose}
use Rattle.reliances.proofs.early.Looseness.add.Given as goal

abbrev pub invariant-loop-t : goal.invariant-loop-t
invariant-loop-t l =
    (length l.nulls.items ≤ length l.initial.nulls.items + l.t-index)
    × ((ts : List Term) → AreLoose (flags l.self.rigid.now) (formulas l.self.before.now) ts l.initial.nulls.items
    → AreLoose (flags l.self.rigid.now) (formulas l.self.before.now) (ts ++ take l.t-index l.t-items) l.nulls.items)
