use Rattle.std.proofs.Common.{rules, tests, ap, ◌∙◌, map}
use Rattle.rules.specs.declared.Term.TheVariants.{Constant}
use Rattle.rules.proofs.Mapping.{mapped}
use Rattle.sources_c.specs.Plain.{term_of, plain_of}
use Rattle.sources_c.proofs.Made.{back}
use Rattle.sources_c.proofs.plain.plain_given.Goals as goal

pub returns : goal.returns
returns c =
    ap (map term_of) (mapped _ _ plain_of (λ x y q called. search (rules, tests)) c.args.terms.now c.map.result (Constant 0) 12 c.told-terms c.map.ensures.items)
    ∙ back c.args.terms.now
