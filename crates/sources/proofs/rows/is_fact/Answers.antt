use Rattle.sources.proofs.CheckedRows.{decides_one}
use Rattle.sources.proofs.rows.is_fact.Goals as goal

pub returns : goal.returns
returns c = decides_one c.args.row.now c.are_facts.ensures
