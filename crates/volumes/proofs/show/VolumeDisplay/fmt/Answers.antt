use Rattle.std.proofs.Common.{◌++◌, codes}
use Rattle.volumes.specs.Answers.{taken}
use Rattle.volumes.proofs.Shown.{puts_line}
use Rattle.volumes.proofs.show.VolumeDisplay.fmt.Goals as goal

pub loop-i-preserved : goal.loop-i-preserved
loop-i-preserved g c =
    let had = rw c.unwrap-entry.ensures at c.entry.ensures in
    let writes = rw (g.met.E.Entries.shown c.unwrap-entry.result) at c.writeln.ensures.writes in
    puts_line g.W.Write.write_str_gives (λ x. g.E.Entries.text x ++ codes "\n") (taken (g.E.Entries.read c.args.self.now.bytes.now)) c.loop-i.i c.args.f.now c.loop-i.f
    (g.E.Entries.means c.unwrap-entry.result) c.writeln.new.self c.writeln.result
    had c.loop-i.invariant writes c.in_ok-writeln.was
