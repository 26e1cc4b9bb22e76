use Rattle.std.proofs.Common.{◌++◌, ap, subst, ◌∙◌}
use Rattle.lines.specs.declared.kinds.Line.TheVariants.{Declined}
use Rattle.lines.specs.Lines.{ended_text}
use Rattle.volumes.specs.Volumes.{rules_of}
use Rattle.listing.specs.Listing.{Listed, Printed}
use Rattle.listing.proofs.Printing.{printed_rules, printed_fault, if_ok}
use Rattle.listing.proofs.listing.list.Goals as goal

pub returns-in-Ok : goal.returns-in-Ok
returns-in-Ok c =
    if_ok (λ text. Listed (rules_of c.take_up.result.bytes.now) text.items) (λ text. Printed c.args.bytes.now text.items)
    (λ text l. printed_rules c.args.bytes.now c.in-Ok.field-0 text.items c.in-Ok.ensures (subst (λ b. Listed (rules_of b) text.items) c.take_up.ensures.same l))
    c.list_rules.result c.list_rules.ensures

pub returns-in_ok-push_line-in-Err : goal.returns-in_ok-push_line-in-Err
returns-in_ok-push_line-in-Err c =
    printed_fault c.args.bytes.now c.in-Err.fault c.push_line.new.text.items c.in-Err.ensures
    (c.in_ok-push_line-in-Err.ensures ∙ ap (λ z. z ++ ended_text (Declined c.in-Err.fault)) c.new-text.ensures.items)
