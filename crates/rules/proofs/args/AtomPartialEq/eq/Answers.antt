use Rattle.std.proofs.Common.{rules}
use Rattle.std.proofs.lemmas.Bool.Decides.{Decides-at}
use Rattle.rules.specs.Same.{same_atom?}
use Rattle.rules.proofs.Alike.{same_atom_decided}
use Rattle.rules.proofs.args.AtomPartialEq.eq.Goals as goal

pub returns-then-self-other-clause-decides : goal.returns-then-self-other-clause-decides
returns-then-self-other-clause-decides c =
    Decides-at c.are_same.result (same_atom? c.args.self.now c.args.other.now) (search rules) (same_atom_decided c.args.self.now c.args.other.now)
