use Rattle.std.proofs.Common.{◌≡◌, ◌+◌, ◌*◌, sym, ◌∙◌, arith}
use Rattle.std.proofs.lemmas.Result.{err_from_is_err_and}
use Rattle.volumes.specs.Layout.{span}
use Rattle.volumes.specs.Reading.{read_fact_entry}
use Rattle.volumes.proofs.Checking.{fact_entries}
use Rattle.volumes.proofs.Loops.{reads_on, reads_stop, reads_done}
use Rattle.volumes.proofs.fact_volume.facts_end.Goals as goal

pub returns-in_err-fact : goal.returns-in_err-fact
returns-in_err-fact c =
    let bs = c.args.bytes.now in
    let i = c.loop-index.index in
    let q = c.loop-index.cursor.place in
    let p = err_from_is_err_and c.from_residual.result c.from_residual.ensures.1 in
    let v = c.loop-index.invariant.read in
    let wrong = (λ j. read_fact_entry (sym c.loop-index.invariant.bytes j) i q) ∙ c.in_err-fact.ensures.value in
    rw (p.1, p.2) (fact_entries bs c.args.count _ c.requires.1
    (reads_stop (read_fact_entry bs) (λ _ p a. p + span a) (3 + 2 * c.args.count) v.0 i q v.2 v.1 c.args.count _ (omega arith) wrong))

pub loop-index-preserved : goal.loop-index-preserved
loop-index-preserved c =
    let bs = c.args.bytes.now in
    let i = c.loop-index.index in
    let q = c.loop-index.cursor.place in
    let v = c.loop-index.invariant.read in
    let k = c.in_ok-fact.ensures in
    let there = (λ j. read_fact_entry (sym c.loop-index.invariant.bytes j) i q) ∙ k.value in
    record {
      bytes = k.moved.bytes ∙ c.loop-index.invariant.bytes;
      end = k.moved.end ∙ c.loop-index.invariant.end;
      read = reads_on (read_fact_entry bs) (λ _ p a. p + span a) (3 + 2 * c.args.count) v.0 i q v.2 v.1 _ _ there (sym k.moved.place);
    }

pub returns : goal.returns
returns c =
    let bs = c.args.bytes.now in
    let v = c.loop-index.invariant.read in
    let all : c.loop-index.index ≡ c.args.count = omega arith in (
      v.0,
      v.1 ∙ all,
      fact_entries bs c.args.count _ c.requires.1
          (reads_done (read_fact_entry bs) (λ _ p a. p + span a) (3 + 2 * c.args.count) v.0 c.loop-index.index c.loop-index.cursor.place v.2 v.1 c.args.count all),
    )
