use Rattle.sources.proofs.CheckedRows.{decides_facts, taken_ok, taken_err}
use Rattle.sources.proofs.row_table.RowTable.take_up.Goals as goal

pub returns-in_default : goal.returns-in_default
returns-in_default c = taken_err c.args.rows.now _ c.in_default.ensures

pub invariant_of-result-2 : goal.invariant_of-result-2
invariant_of-result-2 c =
    let p = c.in-Ok.ensures in
    record { few = p.few; facts = (decides_facts c.args.rows.now).1 p.facts }

pub returns : goal.returns
returns c = taken_ok c.args.rows.now c.in-Ok.ensures
