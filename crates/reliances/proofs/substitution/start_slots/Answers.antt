use Rattle.std.proofs.Common.{rules, ◌≡◌, ◌+◌, ◌<◌, get_or, sym, ap, ◌∙◌, arith}
use Rattle.std.proofs.lemmas.List.{ext_get_or}
use Rattle.rules.specs.declared.Term.TheVariants.{Constant, Null}
use Rattle.reliances.proofs.Slots.{look_numbered}
use Rattle.reliances.proofs.substitution.start_slots.Goals as goal

pub returns : goal.returns
returns c =
    let made = c.from_fn.ensures.items in
    ext_get_or (Constant 0) _ _ made.long
    (λ i l.
    let own : i < 36 = omega (arith, l, made.long) in
    let at : get_or c.from_fn.result i (Constant 0) ≡ Null i = let z = (made.at i (Constant 0) own).2 in search rules in
    at ∙ ap Null (let e : i ≡ 0 + i = omega arith in e) ∙ sym (look_numbered 0 36 i own))
