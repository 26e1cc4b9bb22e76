use Rattle.std.proofs.Common.{arith, length, ap}
use Rattle.std.proofs.lemmas.List.{length-map}
use Rattle.rules.specs.Logic.{formula_of}
use Rattle.matches.specs.Lists.{formulas}
use Rattle.sources.specs.Additions.{own_atoms}
use Rattle.sources.proofs.Laid.{length_laid}
use Rattle.sources.proofs.addition_source.AdditionFactSource.count.Goals as goal

pub returns : goal.returns
returns g c =
    let s = c.args.self.now in
    let own = ap length c.atoms.ensures in
    let all = length_laid (g.S.FactSource.facts s.below) (formulas (own_atoms s.own)) in
    let same = length-map (own_atoms s.own) formula_of in
    omega arith
