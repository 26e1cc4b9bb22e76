use Rattle.std.proofs.Common.{◌++◌, get_or, ap, ◌∙◌, arith}
use Rattle.std.specs.List.{flat_map}
use Rattle.std.proofs.lemmas.List.{get_or_default}
use Rattle.lines.specs.declared.kinds.Line.TheVariants.{Grade}
use Rattle.lines.specs.Lines.{ended_text}
use Rattle.listing.proofs.Zipped.{joined_more, zip_all}
use Rattle.listing.proofs.printed.push_grades.Goals as goal

pub loop-i-preserved : goal.loop-i-preserved
loop-i-preserved c =
    let ns = c.args.numbers.now in
    let gs = c.args.grades.now in
    let i = c.loop-i.i in
    let l = c.loop-i-test.true in
    joined_more (λ p. ended_text (Grade p.0 p.1)) ns gs i (get_or ns i 0) (get_or gs i 0) c.args.text.now.items c.loop-i.text.items c.push_line.new.text.items
    (get_or_default ns i 0 (get_or ns i 0) (omega (arith, l, c.min-i-end.ensures))) (get_or_default gs i 0 (get_or gs i 0) (omega (arith, l, c.min-i-end.ensures)))
    (omega (arith, l, c.min-i-end.ensures)) (omega (arith, l, c.min-i-end.ensures)) c.loop-i.invariant c.in_ok-push_line.ensures

pub returns : goal.returns
returns c =
    c.loop-i.invariant
    ∙ ap (λ z. c.args.text.now.items ++ flat_map (λ p. ended_text (Grade p.0 p.1)) z) (zip_all c.args.numbers.now c.args.grades.now c.loop-i.i (omega (arith, c.loop-i-test.false, c.min-i-end.ensures)))
