use Rattle.std.proofs.Common.{rules, sym, ◌∙◌}
use Rattle.std.proofs.lemmas.Iterator.{YieldsList-from_slice}
use Rattle.std.proofs.lemmas.Iterator.Search.{any_from_yields_List}
use borrow.Author.Tests.{tests}
use Rattle.rules.specs.Logic.{formula_of}
use Rattle.rules.proofs.Mapped.{some_map}
use Rattle.reliances.specs.Unification.{of?}
use Rattle.reliances.proofs.lists.any_of.Goals as goal

pub returns : goal.returns
returns c =
    any_from_yields_List (λ a. of? c.args.predicate (formula_of a)) _ _ _ c.any.ensures.ran (YieldsList-from_slice c.args.atoms.now cc) (λ x b q k. search (rules, tests))
    ∙ sym (some_map formula_of (of? c.args.predicate) c.args.atoms.now)
