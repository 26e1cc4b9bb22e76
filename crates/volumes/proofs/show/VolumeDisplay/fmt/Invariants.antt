use Rattle.std.proofs.Common.{take}
use Rattle.std.specs.Fmt.{IsPlainFormatter, HasWritten}
use Rattle.volumes.specs.Answers.{taken}
use Rattle.volumes.specs.Text.{lines}
use Rattle.volumes.proofs.show.VolumeDisplay.fmt.Given as goal

abbrev pub invariant-loop-i : goal.invariant-loop-i
invariant-loop-i g l =
    IsPlainFormatter l.initial.f
    → HasWritten g.W.Write.write_str_gives l.initial.f (lines g.E.Entries.text (take l.i (taken (g.E.Entries.read l.self.bytes.now)))) l.f
