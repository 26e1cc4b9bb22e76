use Rattle.std.proofs.Common.{◌≡◌, length, take}
use Rattle.rules.specs.Logic.{terms_of}
use Rattle.matches.specs.Lists.{formulas}
use Rattle.sources.specs.Numbering.{Given}
use Rattle.sources.proofs.numbering.number_atoms.Given as goal

abbrev pub invariant-loop-atom : goal.invariant-loop-atom
invariant-loop-atom l =
    record {
      long : length l.known ≡ 12;
      wide : length l.values ≡ 12;
      given : Given (terms_of (take l.atom-index (formulas l.atoms))) l.fn.from l.fn.known l.fn.values l.next l.known l.values;
    }
