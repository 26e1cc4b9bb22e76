use Rattle.std.proofs.Common.{rules, tests}
use Rattle.rules.proofs.Mapping.{mapped}
use Rattle.sources_c.specs.Plain.{term_of}
use Rattle.sources_c.proofs.plain.terms.Goals as goal

pub returns : goal.returns
returns c =
    mapped _ _ term_of (λ x y q called. search (rules, tests)) c.args.plain.now c.map.result (record { kind = 0; number = 0 }) 12 c.told-plain c.map.ensures.items
