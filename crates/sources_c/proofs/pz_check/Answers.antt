use Rattle.std.proofs.Common.{subst, ap, ◌∙◌, take}
use Rattle.sources.specs.Rows.{RowsSay}
use Rattle.sources_c.proofs.pz_check.Goals as goal

pub returns : goal.returns
returns c = (
  c.check_rows.result,
  subst (λ xs. RowsSay xs c.check_rows.result) (ap (λ n. take n c.table-table.result) c.min.ensures ∙ c.table-table.ensures) c.check_rows.ensures,
  c.told.ensures,
)
