use Rattle.std.proofs.Common.{sym, subst}
use Rattle.rules.specs.Logic.{Each}
use Rattle.reliances.specs.Following.{Small}
use Rattle.reliances.proofs.Nodes.{small_body}
use Rattle.reliances.proofs.asking.search_reliance.Goals as goal

pub begin-requires-clause-small : goal.begin-requires-clause-small
begin-requires-clause-small c = subst (Each Small) (sym c.body-body.ensures.same) (small_body c.args.second.now)
