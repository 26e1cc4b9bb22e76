use Rattle.std.proofs.Common.{◌&&◌, List, rules, sym, ◌∙◌}
use Rattle.std.proofs.lemmas.Iterator.{YieldsList-from_slice}
use Rattle.std.proofs.lemmas.Iterator.Search.{any_from_yields_List}
use borrow.Author.Tests.{tests}
use Rattle.rules.specs.Logic.{Formula, formula_of}
use Rattle.rules.specs.Bounds.{some}
use Rattle.rules.specs.Rules.{meaning}
use Rattle.rules.proofs.Mapped.{some_map}
use Rattle.matches.specs.Lists.{formulas}
use Rattle.reliances.specs.Unification.{of?}
use Rattle.reliances.specs.RestraintSearch.{opens?}
use Rattle.reliances.proofs.Gone.{shares_open}
use Rattle.reliances.proofs.asking.share_open.Goals as goal

pub returns : goal.returns
returns c =
    let B = meaning c.args.second.now in
    let test = λ (hs : List Formula) (b : Formula). some (of? b.predicate) hs && opens? B b in
    let heads = formulas c.head-heads.result.now in
    any_from_yields_List (λ a. test heads (formula_of a)) _ _ _ c.any.ensures.ran (YieldsList-from_slice c.head.result.now cc) (λ x b q k. search (rules, tests))
    ∙ sym (some_map formula_of (test heads) c.head.result.now)
    ∙ (λ i. some (test (formulas (c.head-heads.ensures.same i))) (formulas (c.head.ensures.same i)))
    ∙ shares_open (meaning c.args.first.now).head B
