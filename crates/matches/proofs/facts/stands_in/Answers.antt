use Rattle.std.proofs.lemmas.Bool.Decides.{Decides-at}
use Rattle.matches.specs.Lists.{formulas}
use Rattle.matches.proofs.Basics.{decides_stands_in}
use Rattle.matches.proofs.facts.stands_in.Goals as goal

pub returns : goal.returns
returns c = Decides-at _ _ c.is_in.ensures (decides_stands_in c.args.t (formulas c.args.list.now))
