use Rattle.std.proofs.Common.{length, replicate, ap, ◌∙◌}
use Rattle.std.proofs.lemmas.List.{length-replicate}
use Rattle.shelf.specs.declared.calls.Answer.TheVariants.{Done}
use Rattle.listing.specs.Calls.{all_texts, RunPrinted}
use Rattle.listing.proofs.Printing.{if_ok}
use Rattle.listing.proofs.listing.print_run.Goals as goal

pub returns : goal.returns
returns c =
    let ns = c.args.numbers.now in
    let cs = c.args.calls.now in
    if_ok _ (λ text. RunPrinted ns cs text.items)
    (λ text is. (replicate (length cs) Done, c.in_ok-answers.answers.items, length-replicate (length cs) Done, c.in_ok-answers.ensures, is ∙ ap (all_texts ns cs) c.as_slice.ensures.value))
    c.push_all.result c.push_all.ensures
