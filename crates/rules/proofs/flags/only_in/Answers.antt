use Rattle.std.proofs.Common.{rules, ◌≡◌, ℕ, ◌≤◌, Bool, false, ◌&&◌, not, length, ap, arith}
use Rattle.std.proofs.lemmas.List.{get_or_past}
use borrow.Author.Tests.{tests}
use Rattle.rules.specs.Bounds.{flags}
use Rattle.rules.proofs.Mapping.{flagged}
use Rattle.rules.proofs.flags.only_in.Goals as goal

pub returns : goal.returns
returns c =
    flagged _ _ (λ v. flags c.args.xs.now v && not (flags c.args.ys.now v)) (λ j y q called. search (rules, tests)) c.from_fn.result 12 c.from_fn.ensures.items
    (λ k l.
    let long : length c.args.xs.now ≤ k = omega (arith, c.told-xs) in
    ap (λ (b : Bool). b && not (flags c.args.ys.now k)) (get_or_past c.args.xs.now k false long))
