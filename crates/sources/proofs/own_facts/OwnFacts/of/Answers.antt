use Rattle.std.proofs.Common.{◌≡◌, true, List, ◌++◌, length, take, sym, subst, ap, ◌∙◌}
use Rattle.std.proofs.Math.Seq.{take-append_seam}
use Rattle.rules.specs.declared.Atom.{Atom}
use Rattle.rules.specs.Bounds.{every}
use Rattle.matches.specs.Matching.{fact_atom?}
use Rattle.sources.proofs.CheckedRows.{decides_facts}
use Rattle.sources.proofs.own_facts.OwnFacts.of.Goals as goal

-- the front that was copied over
copied : (facts front rest : List Atom) → front ≡ facts → take (length facts) (front ++ rest) ≡ facts
copied facts front rest e = ap (λ xs. take (length facts) (xs ++ rest)) e ∙ take-append_seam facts rest

pub returns : goal.returns
returns c = copied c.args.facts.now _ _ c.copy_from_slice.ensures.after

pub invariant_of-result : goal.invariant_of-result
invariant_of-result c =
    record {
      facts =
          subst (λ xs. every fact_atom? xs ≡ true) (sym (copied c.args.facts.now _ _ c.copy_from_slice.ensures.after))
          ((decides_facts c.args.facts.now).1 c.requires.facts);
    }
