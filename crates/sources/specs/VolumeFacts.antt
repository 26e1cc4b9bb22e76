-- That the facts of a fact volume are at most 2,048, each a fact. Here and not in `proofs/`, since the source itself says so.
use Rattle.std.specs.Prelude.{◌≡◌, ℕ, ◌+◌, ◌≤◌, List, length, Ok, Err, Result, nat_eq, nat_le}
use Rattle.std.proofs.Common.{sym, subst, refl, ap, ◌∙◌}
use Rattle.std.proofs.lemmas.Bool.{leb-true, false≢true}
use Rattle.std.proofs.lemmas.Bool.Decides.{Decides-and}
use Rattle.std.proofs.Math.Nat.{le_trans}
use Rattle.rules.specs.declared.Term.{Term}
use Rattle.rules.specs.declared.Term.TheVariants.{Constant, Variable, Null}
use Rattle.rules.specs.Logic.{Formula}
use Rattle.rules.specs.Matches.{Ground, IsFact}
use Rattle.faults.specs.declared.Fault.{Fault}
use Rattle.rules.proofs.Bounded.{decides_leb}
use Rattle.rules.proofs.Membership.{decides_every}
use Rattle.matches.specs.Matching.{is_ground}
use Rattle.matches.proofs.Literal.{decides_ground, decides_fact}
use Rattle.volumes.specs.Layout.{first_byte_of, TermAt, TermSays, AtomSays, FactEntry, span}
use Rattle.volumes.specs.Reading.{read_facts}
use Rattle.volumes.specs.Answers.{taken}
use Rattle.volumes.specs.Volumes.{facts_of}
use Rattle.volumes.proofs.AtomSays.{stand_each}
use Rattle.volumes.proofs.FactVolumes.{facts_encoded, facts_count, facts_few}
use Rattle.sources.specs.Sources.{FewFacts}

-- the kind of a fact volume, whose name no other crate sees, is told by the first byte
term_ground : (k : _) → first_byte_of k ≡ 2 → (bs : List ℕ) (p : ℕ) (t : Term) → TermAt k bs p t → Ground t
term_ground k two bs p (Constant n) h = tt
term_ground k two bs p (Variable n) h = false≢true (ap (λ b. nat_eq b 1) (sym two ∙ ap first_byte_of h.0))
term_ground k two bs p (Null n) h = tt

atom_fact : (k : _) → first_byte_of k ≡ 2 → (bs : List ℕ) (e p : ℕ) (a : Formula) → AtomSays k bs e p (Ok a) → IsFact a
atom_fact k two bs e p a h =
    let n = length a.terms in
    (decides_fact a).0
    ((Decides-and (nat_le 1 n) _ (decides_leb 1 n) (Decides-and (nat_le n 4) _ (decides_leb n 4) (decides_every is_ground Ground decides_ground a.terms))).1 (
      subst (λ m. 1 ≤ m) (sym h.terms.0) h.begins.arity.some,
      (
        subst (λ m. m ≤ 4) (sym h.terms.0) h.begins.arity.few,
        stand_each (λ _ q t. TermSays k bs e q t) (λ _ q _. q + 3) Ground (λ _ q t s. term_ground k two bs q t s.1) 0 (p + 3) a.terms _ h.terms.1,
      ),
    ))

few_read : (bs : List ℕ) (r : Result (List Formula) Fault) → read_facts bs ≡ r → FewFacts (taken r)
few_read bs (Ok xs) is =
    record {
      few = subst (λ n. n ≤ 4096) (sym (facts_count bs xs is)) (le_trans (facts_few bs xs is) (leb-true 2048 4096 refl));
      facts = stand_each (FactEntry bs) (λ _ p a. p + span a) IsFact (λ i p a s. atom_fact _ refl bs (length bs) p a s.1) 0 _ xs _ (facts_encoded bs xs is).facts.1;
    }
few_read bs (Err f) is = record { few = leb-true 0 4096 refl; facts = λ x m. absurd m }

pub few_volume : (bs : List ℕ) → FewFacts (facts_of bs)
few_volume bs = few_read bs (read_facts bs) refl
