use Rattle.std.proofs.Common.{[], ap, ◌∙◌, arith}
use Rattle.std.specs.List.{flat_map}
use Rattle.std.proofs.lemmas.List.{get_or_default}
use Rattle.listing.specs.Calls.{text_of}
use Rattle.listing.proofs.Zipped.{joined_more, zip_all}
use Rattle.listing.proofs.printed.push_all.Goals as goal

pub loop-i-preserved : goal.loop-i-preserved
loop-i-preserved c =
    let l = c.loop-i-test.true in
    joined_more (λ p. text_of c.args.numbers.now p.0 p.1) c.args.calls.now c.args.answers.now c.loop-i.i c.index-calls-i.result _ [] c.loop-i.text.items c.push_text.new.text.items
    c.index-calls-i.is (get_or_default c.args.answers.now c.loop-i.i _ _ (omega (arith, l, c.min-i-end.ensures)))
    (omega (arith, l, c.min-i-end.ensures)) (omega (arith, l, c.min-i-end.ensures)) c.loop-i.invariant c.in_ok-push_text.ensures

pub returns : goal.returns
returns c =
    c.loop-i.invariant
    ∙ ap (λ z. flat_map (λ p. text_of c.args.numbers.now p.0 p.1) z) (zip_all c.args.calls.now c.args.answers.now c.loop-i.i (omega (arith, c.loop-i-test.false, c.min-i-end.ensures)))
