use Rattle.sources.proofs.Laid.{laid_nothing}
use Rattle.sources.proofs.addition.Addition.new.Goals as goal

pub returns-clause-same : goal.returns-clause-same
returns-clause-same g c = laid_nothing (g.S.FactSource.facts c.args.below) (g.S.FactSource.few c.args.below).few
