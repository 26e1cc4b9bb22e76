use Rattle.std.proofs.Common.{rules, tests, ◌∙◌, [], ap, replicate}
use Rattle.rules.specs.declared.Term.TheVariants.{Constant}
use Rattle.std.proofs.lemmas.List.{get_or-map}
use Rattle.rules.proofs.Mapping.{made}
use Rattle.sources_c.specs.Plain.{given_of, given_at}
use Rattle.sources_c.specs.Calls.{call}
use Rattle.sources_c.proofs.Made.{taken_map}
use Rattle.sources_c.proofs.applications.Goals as goal

pub returns : goal.returns
returns c =
    let r = c.args.rule in
    let gs = c.args.calls.now in
    taken_map (call r) 4 gs c.from_fn.result c.from_fn.ensures.items.long
    (λ k l m d e.
    made _ _ (λ i. record { rule = r; found = given_at gs i }) (λ j y q called. search (rules, tests)) c.from_fn.result 4 c.from_fn.ensures.items k l e
    ∙ ap (λ ts. record { rule = r; found = ts }) (get_or-map given_of gs k d (replicate 12 (Constant 0)) m))
    (record { terms = [] })
