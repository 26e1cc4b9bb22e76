use Rattle.std.proofs.Common.{subst}
use Rattle.rules.specs.Logic.{Each}
use Rattle.matches.specs.Lists.{Whole}
use Rattle.matches.proofs.Bounded.{atoms_sized}
use Rattle.matches.proofs.sizes.sized.Goals as goal

pub returns : goal.returns
returns c = record {
  body = atoms_sized _ c.body.ensures.kept.body (subst (Each Whole) c.body.ensures.same c.whole_atoms.ensures);
  head = atoms_sized _ c.head.ensures.kept.head (subst (Each Whole) c.head.ensures.same c.whole_atoms-2.ensures);
}
