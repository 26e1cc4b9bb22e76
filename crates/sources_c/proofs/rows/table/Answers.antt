use Rattle.std.proofs.Common.{rules, tests, ◌∙◌, []}
use Rattle.std.proofs.lemmas.List.{get_or-map}
use Rattle.rules.proofs.Mapping.{made}
use Rattle.sources_c.specs.Plain.{atom_of, row_at, blank}
use Rattle.sources_c.proofs.Made.{taken_map}
use Rattle.sources_c.proofs.rows.table.Goals as goal

pub returns : goal.returns
returns c =
    let rows = c.args.rows.now in
    taken_map atom_of 4100 rows c.from_fn.result c.from_fn.ensures.items.long
    (λ k l m d e. made _ _ (row_at rows) (λ j y q called. search (rules, tests)) c.from_fn.result 4100 c.from_fn.ensures.items k l e ∙ get_or-map atom_of rows k d blank m)
    (record { predicate = 0; arity = 0; terms = [] })
