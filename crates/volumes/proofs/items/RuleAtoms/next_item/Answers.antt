use Rattle.std.proofs.Common.{◌+◌, ◌<◌, refl, arith}
use Rattle.std.proofs.lemmas.Result.{err_from_is_err_and}
use Rattle.volumes.proofs.AtomSays.{atom_says, handed_here}
use Rattle.volumes.proofs.items.RuleAtoms.next_item.Goals as goal
use Rattle.volumes.proofs.items.RuleAtoms.next_item.Goals.{else-self-eq0-via-then-self-eq0+else-self-eq0-2, else-self-eq0-via-else-self-eq0}

pub returns-in_err-atom : goal.returns-in_err-atom
returns-in_err-atom c =
    let p = err_from_is_err_and c.from_residual.result c.from_residual.ensures.1 in
    let some : 0 < c.args.self.now.bodies + c.args.self.now.heads =
    elim c.else-self-eq0.branch [ else-self-eq0-via-then-self-eq0+else-self-eq0-2 w ↦ omega arith | else-self-eq0-via-else-self-eq0 w ↦ omega arith ] in
    rw (p.1, p.2) (record { rule = record { bytes = refl; end = refl }; place = refl; bodies = refl; heads = refl }, some, atom_says _ _ _ _ c.in_err-atom.ensures.value)

pub returns-then-self-gt0 : goal.returns-then-self-gt0
returns-then-self-gt0 c =
    let k = c.in_ok-atom.ensures in
    (handed_here c.args.self.now _ _ k.value k.moved k.formed refl refl, omega arith, refl)

pub returns-else-self-gt0 : goal.returns-else-self-gt0
returns-else-self-gt0 c =
    let k = c.in_ok-atom.ensures in
    let none = c.if-self-gt0.false in
    let some : 0 < c.args.self.now.heads =
    elim c.else-self-eq0.branch [ else-self-eq0-via-then-self-eq0+else-self-eq0-2 w ↦ omega arith | else-self-eq0-via-else-self-eq0 w ↦ omega arith ] in
    (handed_here c.args.self.now _ _ k.value k.moved k.formed refl refl, omega arith, omega arith, omega arith)
