use Rattle.std.proofs.Common.{◌≡◌, length, take}
use Rattle.sources.specs.Numbering.{Given}
use Rattle.sources.proofs.numbering.number_all.Given as goal

abbrev pub invariant-loop-term : goal.invariant-loop-term
invariant-loop-term l =
    record {
      long : length l.known ≡ 12;
      wide : length l.values ≡ 12;
      given : Given (take l.term-index l.terms) l.fn.from l.fn.known l.fn.values l.next l.known l.values;
    }
