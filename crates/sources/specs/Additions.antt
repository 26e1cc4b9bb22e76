-- What an addition means.
use Rattle.std.specs.Prelude.{List, ◌++◌, take}
use Rattle.rules.specs.Logic.{Formula}
use Rattle.rules.specs.declared.Atom.{Atom}
use Rattle.matches.specs.Lists.{formulas}
use Rattle.sources.specs.declared.own_facts.OwnFacts.{OwnFacts}

-- the facts below followed by the addition's own, cut after the 4,096th
abbrev pub laid_over : List Formula → List Formula → List Formula
laid_over below own = take 4096 (below ++ own)

-- the addition's own facts, as atoms
abbrev pub own_atoms : OwnFacts → List Atom
own_atoms t = take t.count t.atoms

-- the same as they are meant
abbrev pub own_facts : OwnFacts → List Formula
own_facts t = formulas (own_atoms t)
