-- That an application is one in the sense of rules, and that what it adds are facts.
-- Assumes nothing.
use Rattle.std.proofs.Common.{◌≡◌, ℕ, ◌+◌, ◌<◌, ◌≤◌, false, List, [], ◌∷◌, ◌++◌, map, length, get_or, Decides, refl, sym, subst, ap, ◌∙◌, ⊎_elim, arith}
use Rattle.std.proofs.lemmas.Bool.{cases_lt}
use Rattle.std.proofs.lemmas.List.{length-map, length-append, take_all}
use Rattle.rules.specs.declared.Term.{Term}
use Rattle.rules.specs.declared.Term.TheVariants.{Constant, Variable, Null}
use Rattle.rules.specs.declared.Atom.{Atom}
use Rattle.rules.specs.Logic.{In, Each, Formula, Implication, formula_of, terms_of, Universal, Existential}
use Rattle.rules.specs.Bounds.{universal?, RuleAtom}
use Rattle.rules.specs.Same.{number_of}
use Rattle.rules.specs.Matches.{Ground, IsNull, IsFact, Facts, Stands, Assignment, value, under, Match, Satisfied, Unsatisfied, Fresh, Applies}
use Rattle.rules.proofs.Membership.{stands_decided, false_from, decides_false}
use Rattle.matches.specs.Lists.{formulas, under_atom, FactAtom, Sized}
use Rattle.matches.proofs.Basics.{in_map, from_map, in_terms, under_same, each_index, either, cons_path}
use Rattle.matches.proofs.Steps.{no_atom, of_under}
use Rattle.volumes.specs.Answers.{Nth}
use Rattle.sources.specs.Applying.{FirstNew, new_in_order, Filling, Applied}
use Rattle.sources.specs.Numbering.{Applicable}
use Rattle.sources.proofs.Listed.{in_at, nth_of}
use Rattle.sources.proofs.Standing.{nth_same}
use Rattle.sources.proofs.Ways.{way_of, ground_values}
use Rattle.sources.proofs.NewVariables.{stands_new}

-- no element up to an index, and not this one
pub none_more : {A : Type 0} (xs : List A) (i : ℕ) (x : A) → ((k : ℕ) → k < i → Nth xs k x → ⊥) → (Nth xs i x → ⊥) → (k : ℕ) → k < i + 1 → Nth xs k x → ⊥
none_more xs i x before here k l n =
    ⊎_elim (λ (b : k < i). before k b n) (λ (b : i ≤ k). let e : k ≡ i = omega arith in here (subst (λ z. Nth xs z x) e n)) (cases_lt k i)

pub none_in : {A : Type 0} (xs : List A) (i : ℕ) (x : A) → ((k : ℕ) → k < i → Nth xs k x → ⊥) → length xs ≤ i → Decides false (In x xs)
none_in xs i x before long = decides_false (λ m. let n = nth_of x xs m in let l = n.1.0 in before n.0 (omega arith) n.1)

module _ (F : List Formula) (atoms : List Atom) (h : Assignment) where
  pub under_more : (i : ℕ) → ((k : ℕ) → k < i → In (under h (formula_of (get_or atoms k no_atom))) F) → In (under h (formula_of (get_or atoms i no_atom))) F
      → (k : ℕ) → k < i + 1 → In (under h (formula_of (get_or atoms k no_atom))) F
  under_more i before here k l =
      ⊎_elim (λ (b : k < i). before k b) (λ (b : i ≤ k). let e : i ≡ k = omega arith in subst (λ z. In (under h (formula_of (get_or atoms z no_atom))) F) e here) (cases_lt k i)

  pub under_all : ((k : ℕ) → k < length atoms → In (under h (formula_of (get_or atoms k no_atom))) F) → Each (λ a. In (under h a) F) (formulas atoms)
  under_all each f m =
      let a = from_map formula_of f atoms m in
      subst (λ z. In (under h z) F) (sym a.2) (each_index (λ b. In (under h (formula_of b)) F) no_atom atoms each a.0 a.1)

  pub under_at : (i : ℕ) → i < length atoms → Each (λ a. In (under h a) F) (formulas atoms) → In (under h (formula_of (get_or atoms i no_atom))) F
  under_at i l each = each _ (in_map formula_of (get_or atoms i no_atom) atoms (in_at no_atom atoms i l))

module _ (r : Implication) (h k : Assignment) (F : List Formula) (n : ℕ) (f : Filling r h n k) where
  -- the null of an existential variable
  null_of : (v : ℕ) → Existential r v → (i : ℕ) × Nth (new_in_order r) i v × (k v ≡ Null (n + i))
  null_of v e =
      let old = false_from (universal? r v) (stands_decided v r.body) e.1 in
      let m = nth_of v (new_in_order r) (stands_new (universal? r) v (terms_of r.head) e.0 old) in
      (m.0, m.1, f.nulls m.0 v m.1)

  same_body : (a : Formula) → In a r.body → under h a ≡ under k a
  same_body a m = under_same h k a (λ v i. sym (f.agrees v (in_terms (Variable v) a r.body m i)))

  pub filled_match : Match r h F → Match r k F
  filled_match m a i = subst (λ z. In z F) (same_body a i) (m a i)

  filled_missing : (Satisfied r h F → ⊥) → Satisfied r k F → ⊥
  filled_missing none s = none (record { extension = s.extension; agrees = λ v u. s.agrees v u ∙ f.agrees v u; present = s.present })

  filled_fresh : FirstNew F n → Fresh r k F
  filled_fresh first =
      record {
        nulls = λ v e. subst IsNull (sym (null_of v e).2) tt;
        new = λ v e s.
            let m = null_of v e in
            let l = first.above (n + m.0) (subst (λ t. Stands t F) m.2 s) in
            absurd (omega arith);
        apart = λ v w e d same.
            let a = null_of v e in
            let b = null_of w d in
            let q = ap number_of (sym a.2 ∙ same ∙ b.2) in
            let z : a.0 ≡ b.0 = omega arith in
            nth_same (new_in_order r) b.0 v w (subst (λ i. Nth (new_in_order r) i v) z a.1) b.1;
      }

  pub filled_applies : FirstNew F n → Unsatisfied r h F → Applies r k F
  filled_applies first u =
      record { unsatisfied = record { matches = filled_match u.matches; missing = filled_missing u.missing }; fresh = filled_fresh first }

  -- what a head's term is filled with
  ground_term : Facts F → Match r h F → (t : Term) → Stands t r.head → Ground (value k t)
  ground_term facts m (Constant c) s = tt
  ground_term facts m (Null c) s = tt
  ground_term facts m (Variable v) s = ⊎_elim universal existential (either (universal? r v) (stands_decided v r.body))
    where
      universal : Universal r v → Ground (k v)
      universal u = let w = way_of F r.body h m in subst Ground (sym (f.agrees v u)) (ground_values F r.body w.0 h facts w.1 v u)

      existential : (Universal r v → ⊥) → Ground (k v)
      existential none = subst Ground (sym (null_of v (s, none)).2) tt

  -- the filled head consists of facts
  pub filled_facts : (atoms : List Atom) → formulas atoms ≡ r.head → Each RuleAtom atoms → Each Sized r.head → Facts F → Match r h F → Each FactAtom (map (under_atom k) atoms)
  filled_facts atoms same each sized facts m b i =
      let a = from_map (under_atom k) b atoms i in
      let there : In (formula_of a.0) r.head = subst (In (formula_of a.0)) same (in_map formula_of a.0 atoms a.1) in
      let size = sized (formula_of a.0) there in
      let s = length-map (formula_of a.0).terms (value k) in
      subst FactAtom (sym a.2)
      (record {
        few = (each a.0 a.1).few;
        fact =
            subst IsFact (sym (of_under k a.0))
            (record {
              some = let z = size.0 in omega arith;
              few = let z = size.1 in omega arith;
              ground = λ t j.
                  let u = from_map (value k) t (formula_of a.0).terms j in
                  subst Ground (sym u.2) (ground_term facts m u.0 (in_terms u.0 (formula_of a.0) r.head there u.1));
            });
      })

-- what the filled atoms mean
pub filled_meaning : (k : Assignment) (atoms : List Atom) → formulas (map (under_atom k) atoms) ≡ map (under k) (formulas atoms)
filled_meaning k [] = refl
filled_meaning k (a ∷ atoms) = cons_path (of_under k a) (filled_meaning k atoms)

pub applied : (r : Implication) (h : Assignment) (F : List Formula) (k : Assignment) (own : List Formula) → Applicable r h F k → own ≡ map (under k) r.head → Applied r h F own
applied r h F k own a e =
    record {
      unsatisfied = a.unsatisfied;
      first = a.first;
      new = a.new;
      fit = a.fit;
      few = a.few;
      assignment = k;
      filling = a.filling;
      added = e;
      applies = filled_applies r h k F a.first a.filling a.new a.unsatisfied;
      all = take_all 4096 (F ++ own) (let few = a.few in let s = length-append F own in let l = ap length e in let m = length-map r.head (under k) in omega arith) ∙ ap (λ z. F ++ z) e;
    }
