use Rattle.std.proofs.Common.{map, take, ◌+◌}
use Rattle.std.specs.Fmt.{IsPlainFormatter, HasWritten}
use Rattle.rules.specs.Text.{separated, letters_by}
use Rattle.rules.proofs.show.show_all.Given as goal

abbrev pub invariant-loop-item : goal.invariant-loop-item
invariant-loop-item g l =
    IsPlainFormatter l.fn.f → HasWritten g.W.Write.write_str_gives l.fn.f
    (separated l.separator (map (g.T.Show.text (letters_by l.body)) (take (l.item-index + 1) l.items))) l.f
