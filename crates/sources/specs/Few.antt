-- That what each source means is at most 4,096 facts. Here and not in `proofs/`, since the sources themselves say so.
use Rattle.std.specs.Prelude.{◌≡◌, ℕ, zero, suc, ◌≤◌, true, List, [], ◌∷◌, ◌++◌, length, take}
use Rattle.std.proofs.Common.{inl, inr, sym, subst, ⊎_elim}
use Rattle.std.proofs.lemmas.List.{length-map, length-take}
use Rattle.std.proofs.Math.Nat.{min-le_left}
use Rattle.rules.specs.declared.Atom.{Atom}
use Rattle.rules.specs.Logic.{In, Formula, formula_of}
use Rattle.rules.specs.Bounds.{every}
use Rattle.rules.specs.Matches.{Facts}
use Rattle.rules.proofs.Membership.{in_either, decides_every}
use Rattle.matches.specs.Lists.{formulas, FactAtom}
use Rattle.matches.specs.Matching.{fact_atom?}
use Rattle.matches.proofs.Literal.{decides_fact_atom, facts_meant}
use Rattle.sources.specs.Sources.{FewFacts}
use Rattle.sources.specs.Additions.{laid_over}

in_take : {A : Type 0} (x : A) (n : ℕ) (xs : List A) → In x (take n xs) → In x xs
in_take x zero xs m = absurd m
in_take x (suc n) [] m = m
in_take x (suc n) (y ∷ ys) (inl e) = inl e
in_take x (suc n) (y ∷ ys) (inr m) = inr (in_take x n ys m)

-- atoms that pass the test mean facts
pub tested_facts : (atoms : List Atom) → every fact_atom? atoms ≡ true → Facts (formulas atoms)
tested_facts atoms e = facts_meant atoms ((decides_every fact_atom? FactAtom decides_fact_atom atoms).0 e)

pub few_atoms : (atoms : List Atom) → length atoms ≤ 4096 → every fact_atom? atoms ≡ true → FewFacts (formulas atoms)
few_atoms atoms l e = record { few = subst (λ n. n ≤ 4096) (sym (length-map atoms formula_of)) l; facts = tested_facts atoms e }

pub few_laid : (below own : List Formula) → Facts below → Facts own → FewFacts (laid_over below own)
few_laid below own b o =
    record {
      few = subst (λ n. n ≤ 4096) (sym (length-take 4096 (below ++ own))) (min-le_left 4096 (length (below ++ own)));
      facts = λ x m. ⊎_elim (λ i. b x i) (λ i. o x i) (in_either x below own (in_take x 4096 (below ++ own) m));
    }
