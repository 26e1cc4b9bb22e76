use Rattle.std.proofs.Common.{codes, rules}
use Rattle.rules.proofs.Shown.{prints_three, atoms_text, formulas_text}
use Rattle.rules.proofs.show.RuleDisplay.fmt.Goals as goal

pub returns-clause-writes : goal.returns-clause-writes
returns-clause-writes g c =
    prints_three g.W.Write.write_str_gives c.args.f.now c.show_all.new.f c.write_str.new.self c.show_all-2.new.f
    c.show_all.result c.write_str.result c.show_all-2.result
    (atoms_text c.body-body.result.now c.body-body.result.now) (codes " -> ") (atoms_text c.body-body.result.now c.head.result.now) _
    c.show_all.ensures c.in_ok-show_all.was c.write_str.ensures.writes c.in_ok-write_str.was c.show_all-2.ensures
    (rw (formulas_text c.body-body.result.now c.body-body.result.now, formulas_text c.body-body.result.now c.head.result.now, c.body-body.ensures.same, c.head.ensures.same) (search rules))
