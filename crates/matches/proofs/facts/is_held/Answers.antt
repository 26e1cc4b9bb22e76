use Rattle.std.proofs.Common.{rules, sym, ap, ◌∙◌}
use Rattle.std.proofs.lemmas.Iterator.{YieldsList-from_slice}
use Rattle.std.proofs.lemmas.Iterator.Search.{any_from_yields_List}
use borrow.Author.Tests.{tests}
use Rattle.rules.specs.Logic.{formula_of}
use Rattle.rules.specs.Same.{same_formula?}
use Rattle.rules.proofs.Mapped.{some_map}
use Rattle.matches.specs.Lists.{formulas}
use Rattle.matches.specs.Matching.{holds}
use Rattle.matches.proofs.facts.is_held.Goals as goal

pub returns : goal.returns
returns c =
    any_from_yields_List (λ f. same_formula? (formula_of f) (formula_of c.atom_under-filled.result)) _ _ _ c.any.ensures.ran (YieldsList-from_slice c.args.list.now cc) (λ x b q k. search (rules, tests))
    ∙ sym (some_map formula_of (λ f. same_formula? f (formula_of c.atom_under-filled.result)) c.args.list.now)
    ∙ ap (λ a. holds a (formulas c.args.list.now)) c.atom_under-filled.ensures.meant
