use Rattle.std.proofs.Common.{rules}
use Rattle.std.proofs.lemmas.Iterator.{YieldsList-from_slice}
use Rattle.std.proofs.lemmas.Iterator.Search.{all_from_yields_List}
use borrow.Author.Tests.{tests}
use Rattle.std.proofs.lemmas.Bool.Decides.{Decides-at}
use Rattle.rules.proofs.Membership.{decides_every}
use Rattle.matches.specs.Lists.{FactAtom}
use Rattle.matches.specs.Matching.{fact_atom?}
use Rattle.matches.proofs.Literal.{decides_fact_atom}
use Rattle.matches.proofs.facts.are_facts.Goals as goal

pub returns : goal.returns
returns c =
    Decides-at _ _ (all_from_yields_List fact_atom? _ _ _ c.all.ensures.ran (YieldsList-from_slice c.args.list.now cc) (λ x b q k. search (rules, tests)))
    (decides_every fact_atom? FactAtom decides_fact_atom c.args.list.now)
