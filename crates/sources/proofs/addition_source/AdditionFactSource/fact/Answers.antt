use Rattle.std.proofs.Common.{refl, arith, length, ap}
use Rattle.std.proofs.lemmas.List.{length-map}
use Rattle.rules.specs.Logic.{formula_of}
use Rattle.matches.specs.Lists.{formulas}
use Rattle.matches.proofs.Steps.{no_atom}
use Rattle.sources.specs.Additions.{own_atoms}
use Rattle.sources.proofs.Laid.{length_laid, laid_below, laid_own}
use Rattle.sources.proofs.addition_source.AdditionFactSource.fact.Goals as goal

pub returns-in-Ok : goal.returns-in-Ok
returns-in-Ok g c =
    let s = c.args.self.now in
    laid_below (g.S.FactSource.facts s.below) (formulas (own_atoms s.own)) c.args.index _ (g.S.FactSource.few s.below).few c.in-Ok.ensures

pub returns-then-place-own : goal.returns-then-place-own
returns-then-place-own g c =
    let s = c.args.self.now in
    let past = c.in_default.ensures.0 in
    laid_own (g.S.FactSource.facts s.below) (own_atoms s.own) c.atoms-own.result.now c.atoms-own.ensures c.count.result c.args.index no_atom c.count.ensures (omega arith) (omega arith)
    (omega arith)

pub returns-else-index-lt-MOST : goal.returns-else-index-lt-MOST
returns-else-index-lt-MOST g c =
    let s = c.args.self.now in
    let own = ap length c.atoms-own.ensures in
    let all = length_laid (g.S.FactSource.facts s.below) (formulas (own_atoms s.own)) in
    let same = length-map (own_atoms s.own) formula_of in
    let past = c.in_default.ensures.0 in
    let why = c.else-index-lt-MOST.either in
    (omega arith, refl)
