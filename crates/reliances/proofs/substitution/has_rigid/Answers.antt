use Rattle.std.proofs.Common.{rules, sym, ◌∙◌}
use Rattle.std.proofs.lemmas.Bool.Decides.{Decides-at}
use Rattle.std.proofs.lemmas.Iterator.{YieldsList-from_slice}
use Rattle.std.proofs.lemmas.Iterator.Search.{any_from_yields_List}
use Rattle.rules.specs.Bounds.{flags}
use borrow.Author.Tests.{tests}
use Rattle.rules.specs.Logic.{Formula, formula_of}
use Rattle.rules.proofs.Mapped.{some_map}
use Rattle.matches.specs.Lists.{formulas}
use Rattle.reliances.specs.Unification.{any_rigid?}
use Rattle.reliances.proofs.Rigid.{decides_has_rigid}
use Rattle.reliances.proofs.substitution.has_rigid.Goals as goal

pub returns : goal.returns
returns c =
    let r = flags c.args.rigid.now in
    Decides-at _ _
    (any_from_yields_List (λ a. any_rigid? r (formula_of a).terms) _ _ _ c.any.ensures.ran (YieldsList-from_slice c.args.list.now cc) (λ x b q k. search (rules, tests))
    ∙ sym (some_map formula_of (λ (a : Formula). any_rigid? r a.terms) c.args.list.now))
    (decides_has_rigid r (formulas c.args.list.now))
