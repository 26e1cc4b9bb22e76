use Rattle.std.proofs.Common.{◌≤◌, subst, arith}
use Rattle.rules.specs.Bounds.{Plain}
use Rattle.sources.proofs.NewNulls.{given_term}
use Rattle.sources.proofs.numbering.number.Goals as goal

pub returns : goal.returns
returns c =
    let v = c.in-Variable.v in
    let few : v ≤ 11 = subst Plain c.in-Variable.is c.requires.plain in
    given_term c.args.term v c.args.next c.in-Ok.null c.args.known.now c.args.values.now c.in-Variable.is (omega (arith, c.in-Ok.ensures)) (omega arith) (omega arith) (omega arith) c.if-known-v.false
