use Rattle.std.proofs.Common.{[], map, sym, refl, ap, ◌∙◌, subst}
use Rattle.std.specs.List.{filter}
use Rattle.rules.specs.declared.rule.Rule.{Rule}
use Rattle.rules.specs.Logic.{Each}
use Rattle.rules.specs.Rules.{meaning}
use Rattle.matches.specs.Lists.{formulas}
use Rattle.reliances.specs.Following.{Small}
use Rattle.reliances.specs.Unification.{shift_formula}
use Rattle.reliances.specs.RestraintSearch.{opens?, shift_atom}
use Rattle.reliances.proofs.Nodes.{kept_small}
use Rattle.reliances.proofs.Laying.{laid_one}
use Rattle.reliances.proofs.RestraintNodes.{shift_atoms}
use Rattle.reliances.proofs.asking.search_restraint.Goals as goal

pub begin-requires-clause-all : goal.begin-requires-clause-all
begin-requires-clause-all c =
    let q = c.new-asked.result in
    let atoms = c.deref.result.now in
    ap formulas (c.deref-2.ensures.0 ∙ laid_one _ c.push_each.new.into.items _ atoms c.new-read.ensures c.push_each.ensures)
    ∙ shift_atoms q.first.now q.second.now [] [] q.rigid q.flags atoms
    ∙ ap (λ z. map (shift_formula (meaning q.second.now)) (formulas z)) c.deref.ensures.0
    ∙ ap (map (shift_formula (meaning q.second.now))) c.open_atoms-open.ensures.same
    ∙ ap (λ (r : Rule). map (shift_formula (meaning q.second.now)) (filter (opens? (meaning r)) (meaning r).head)) (sym c.new-asked.ensures.1)

pub begin-requires-clause-small : goal.begin-requires-clause-small
begin-requires-clause-small c =
    subst (Each Small)
    (sym (c.deref-2.ensures.0 ∙ laid_one _ c.push_each.new.into.items _ c.deref.result.now c.new-read.ensures c.push_each.ensures))
    (kept_small (shift_atom c.new-asked.result.rigid) (λ a. refl) c.deref.result.now (subst (Each Small) (sym c.deref.ensures.0) c.open_atoms-open.ensures.small))
