use Rattle.volumes.proofs.Had.{atoms_ok, atoms_had}
use Rattle.volumes.proofs.rule_volume.Volume+Rules.atoms.Goals as goal

pub unwrap-requires : goal.unwrap-requires
unwrap-requires c = atoms_ok c.args.self.now.bytes.now c.args.index c.in-Some.part c.in-Some.ensures _ c.rule_atoms.ensures

pub returns-in-Some : goal.returns-in-Some
returns-in-Some c =
    atoms_had c.args.self.now.bytes.now c.args.index c.in-Some.part c.in-Some.ensures c.unwrap.result (rw c.unwrap.ensures at c.rule_atoms.ensures)
