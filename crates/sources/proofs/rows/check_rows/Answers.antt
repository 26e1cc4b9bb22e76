use Rattle.std.proofs.Common.{refl, arith}
use Rattle.std.proofs.lemmas.Bool.{both_ways}
use Rattle.matches.proofs.Steps.{no_atom}
use Rattle.sources.specs.Rows.{RowsWrong}
use Rattle.sources.proofs.Listed.{nth_at}
use Rattle.sources.proofs.CheckedRows.{first_facts, all_facts}
use Rattle.sources.proofs.rows.check_rows.Goals as goal

pub returns-then-not-is_fact : goal.returns-then-not-is_fact
returns-then-not-is_fact c =
    RowsWrong.wrong_row (omega arith) c.loop-row.row (first_facts c.args.rows.now c.loop-row.row c.loop-row.invariant) _
    (nth_at no_atom c.args.rows.now c.loop-row.row (omega arith)) (λ f. both_ways _ c.if-not-is_fact.true (c.is_fact.ensures.1 f)) refl

pub returns : goal.returns
returns c = record { few = omega arith; facts = all_facts c.args.rows.now (λ k l. c.loop-row.invariant k (omega arith)) }
