use Rattle.std.proofs.Common.{ℕ, Bool, ◌||◌, map, sym, ap, ◌∙◌, subst, List, arith}
use Rattle.rules.specs.declared.Term.{Term}
use Rattle.rules.specs.Logic.{formula_of}
use Rattle.rules.specs.Bounds.{some, has?, is_variable?}
use Rattle.rules.specs.Flags.{Sets}
use Rattle.rules.proofs.Mapped.{some_map}
use Rattle.rules.proofs.Setting.{no_atom, clear, all_clear, sets_more, sets_all}
use Rattle.rules.proofs.flags.flags_of.Goals as goal

pub loop-a-preserved : goal.loop-a-preserved
loop-a-preserved c =
    sets_more (λ v a. has? v (formula_of a)) c.args.atoms.now c.loop-a.a-index no_atom clear c.loop-a.set c.set_all.new.set (omega arith) c.loop-a.invariant
    (subst (λ (ts : List Term). Sets (λ v. some (is_variable? v) ts) c.loop-a.set c.set_all.new.set) c.args-in-loop-a.ensures c.set_all.ensures)

pub returns-clause-each : goal.returns-clause-each
returns-clause-each c v l =
    let items = c.args.atoms.now in
    (sets_all (λ v a. has? v (formula_of a)) items c.loop-a.a-index clear c.loop-a.set (omega arith) c.loop-a.invariant).each v l
    ∙ ap (λ (b : Bool). b || some (λ a. has? v (formula_of a)) items) (all_clear v)
    ∙ sym (some_map formula_of (has? v) items)
