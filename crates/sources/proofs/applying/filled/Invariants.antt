use Rattle.std.proofs.Common.{◌≡◌, length, map, take}
use Rattle.matches.specs.Lists.{look, under_atom}
use Rattle.sources.proofs.applying.filled.Given as goal

abbrev pub invariant-loop-place : goal.invariant-loop-place
invariant-loop-place l = record { long : length l.facts ≡ 4; done : take l.place l.facts ≡ map (under_atom (look l.values)) (take l.place l.atoms) }
