use Rattle.std.proofs.lemmas.Result.{err_from_is_err_and}
use Rattle.volumes.proofs.RuleReading.{atom_stops, bytes_left, rule_made}
use Rattle.volumes.proofs.cursor.Cursor.rule.Goals as goal

pub returns-in_err-read_atoms : goal.returns-in_err-read_atoms
returns-in_err-read_atoms c =
    let p = err_from_is_err_and c.from_residual-in_err-read_atoms.result c.from_residual-in_err-read_atoms.ensures.1 in
    let k = c.in_err-read_atoms.ensures in
    rw (p.1, p.2) (atom_stops c.args.self _ _ _ c.in_ok-atoms.ensures k.passed _ k.ends.0 k.ends.1)

pub returns-then-place-self : goal.returns-then-place-self
returns-then-place-self c =
    let k = c.in_ok-read_atoms.ensures in
    bytes_left c.args.self _ _ _ c.in_ok-atoms.ensures k.passed k.ends.0 k.ends.1 c.if-place-self.true

pub returns : goal.returns
returns c =
    let k = c.in_ok-read_atoms.ensures in
    rw c.ok_or.ensures.value (rule_made c.args.self _ _ _ c.in_ok-atoms.ensures k.passed k.ends.0 k.ends.1 c.if-place-self.false _ c.new.ensures)
