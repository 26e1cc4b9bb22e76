use Rattle.std.proofs.Common.{rules, tests}
use Rattle.std.proofs.lemmas.Bool.Decides.{Decides-at}
use Rattle.rules.proofs.Membership.{decides_in}
use Rattle.reliances.proofs.early.is_in.Goals as goal

pub returns : goal.returns
returns c =
    let n = c.args.n in
    Decides-at c.contains.result _ c.contains.ensures.value (decides_in n _ (λ x. search (rules, tests)) c.args.numbers.now)
