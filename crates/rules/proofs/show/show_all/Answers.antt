use Rattle.std.proofs.Common.{arith}
use Rattle.rules.specs.Text.{letters_by}
use Rattle.rules.proofs.Shown.{puts_next}
use Rattle.rules.proofs.show.show_all.Goals as goal

pub loop-item-preserved : goal.loop-item-preserved
loop-item-preserved g c =
    puts_next g.W.Write.write_str_gives c.args.separator.now (g.T.Show.text (letters_by c.args.body)) c.args.items.now c.in-Some.head.now c.in-Some.tail.now
    c.loop-item.item-index c.item-item.result c.args.f.now c.loop-item.f c.write_str.new.self c.show-in-loop-item.new.f c.write_str.result c.show-in-loop-item.result
    c.in-Some.ensures.cases.0 (omega arith) c.item-item.is c.loop-item.invariant
    c.write_str.ensures.writes c.in_ok-write_str.was c.show-in-loop-item.ensures c.in_ok-show-2.was
