use Rattle.std.proofs.Common.{◌≡◌, drop}
use Rattle.std.specs.Cmp.Lexicographic.{pointwise}
use Rattle.rules.specs.Same.{same_term?}
use Rattle.rules.proofs.args.are_same.Given as goal

-- what is left of both lists decides
abbrev pub invariant-loop-i : goal.invariant-loop-i
invariant-loop-i l = pointwise same_term? l.xs l.ys ≡ pointwise same_term? (drop l.i l.xs) (drop l.i l.ys)
