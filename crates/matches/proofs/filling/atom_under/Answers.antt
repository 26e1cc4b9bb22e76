use Rattle.std.proofs.Common.{ap, ◌∙◌}
use Rattle.rules.specs.declared.Term.TheVariants.{Constant}
use Rattle.rules.specs.Logic.{formula_of}
use Rattle.rules.specs.Matches.{value}
use Rattle.matches.specs.Lists.{look}
use Rattle.matches.proofs.Steps.{mapped, terms_path, of_under}
use Rattle.matches.proofs.filling.atom_under.Goals as goal

pub returns-clause-whole : goal.returns-clause-whole
returns-clause-whole c =
    let e = c.values_of.ensures in
    terms_path (mapped (Constant 0) (value (look c.args.h.now)) c.args.a.now.terms c.values_of.result e.long e.each)

pub returns-clause-meant : goal.returns-clause-meant
returns-clause-meant c = ap formula_of (returns-clause-whole c) ∙ of_under (look c.args.h.now) c.args.a.now
