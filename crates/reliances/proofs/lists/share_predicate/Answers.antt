use Rattle.std.proofs.Common.{rules, sym, ◌∙◌}
use Rattle.std.proofs.lemmas.Iterator.{YieldsList-from_slice}
use Rattle.std.proofs.lemmas.Iterator.Search.{any_from_yields_List}
use borrow.Author.Tests.{tests}
use Rattle.rules.specs.Logic.{Formula, formula_of}
use Rattle.rules.specs.Bounds.{some}
use Rattle.rules.proofs.Mapped.{some_map}
use Rattle.matches.specs.Lists.{formulas}
use Rattle.reliances.specs.Unification.{of?}
use Rattle.reliances.proofs.lists.share_predicate.Goals as goal

pub returns : goal.returns
returns c =
    let shared = λ (b : Formula). some (of? b.predicate) (formulas c.args.heads.now) in
    any_from_yields_List (λ a. shared (formula_of a)) _ _ _ c.any.ensures.ran (YieldsList-from_slice c.args.list.now cc) (λ x b q k. search (rules, tests))
    ∙ sym (some_map formula_of shared c.args.list.now)
