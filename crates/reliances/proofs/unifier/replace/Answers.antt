use Rattle.std.proofs.Common.{◌<◌, Bool, cond, length, get_or, set, sym, ap, ◌∙◌, arith, rules}
use Rattle.std.proofs.lemmas.List.Edits.{map_over_more}
use Rattle.rules.specs.declared.Term.TheVariants.{Constant}
use Rattle.reliances.specs.Unification.{replaced}
use Rattle.reliances.proofs.unifier.replace.Goals.{then-is_same, else-is_same}
use Rattle.reliances.proofs.unifier.replace.Goals as goal

pub loop-x-preserved : goal.loop-x-preserved
loop-x-preserved c =
    let i = c.loop-x.x-index in
    let σ = c.loop-x.sigma in
    let x = get_or σ i (Constant 0) in
    let within : i < length σ = omega arith in
    let chosen = λ (b : Bool). cond b c.args.t x in
    elim c.if-is_same.branch [
      | then-is_same w ↦ w.sigma-is ∙ ap (λ (b : Bool). set σ i (chosen b)) (sym w.if-is_same.true ∙ c.is_same.ensures)
      | else-is_same w ↦ w.sigma-is ∙ ap (λ (b : Bool). set σ i (chosen b)) (sym w.if-is_same.false ∙ c.is_same.ensures)
    ]
    ∙ map_over_more (replaced c.args.s c.args.t) c.args.sigma.now σ i x (omega arith) c.loop-x.invariant (search rules)
