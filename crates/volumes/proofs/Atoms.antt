-- An atom that is read is the one that stands there, and a fault is the first one there; so with atoms one after another.
use Rattle.std.proofs.Common.{◌≡◌, ℕ, ◌+◌, ◌*◌, ◌<◌, ◌≤◌, List, length, Ok, Err, Result, sym, refl, ap, ◌∙◌, subst, ⊎_elim, arith}
use Rattle.std.proofs.lemmas.Bool.Decides.{nat_tests}
use Rattle.std.proofs.lemmas.Bool.{cases_lt, le-leb}
use Rattle.rules.specs.declared.Term.{Term}
use Rattle.rules.specs.Logic.{Formula}
use Rattle.volumes.specs.declared.kind.VolumeKind.{VolumeKind}
use Rattle.faults.specs.declared.TermFault.{TermFault}
use Rattle.faults.specs.declared.AtomFault.{AtomFault}
use Rattle.faults.specs.declared.AtomFault.TheVariants.{CutShort, Arity}
use Rattle.faults.specs.Faults.{cut_at, atom_fault}
use Rattle.volumes.specs.Sequence.{Run}
use Rattle.volumes.specs.Layout.{at, pair, TermSays, TermsSay, ArityAllowed, AtomBegins, AtomWrong, AtomSays, AtomsSay, span}
use Rattle.volumes.specs.Reading.{and_then, above, read_term, read_terms, read_atom, read_atoms}
use Rattle.volumes.proofs.Steps.{said, both_ends}
use Rattle.volumes.proofs.Runs.{run_right, run_only, stand_kept}
use Rattle.volumes.proofs.Terms.{term_right, term_only}

module _ (k : VolumeKind) (bs : List ℕ) (e : ℕ) where
  -- n terms from p on
  abbrev pub TermRun : ℕ → ℕ → Result (List Term × ℕ) TermFault → Type 0
  TermRun p n r = Run (λ _ q t. TermSays k bs e q t) (λ _ q _. q + 3) 0 p n r

  pub terms_right : (p n : ℕ) → TermRun p n (read_terms k bs e p n)
  terms_right p n = run_right (λ _ q t. TermSays k bs e q t) (λ _ q _. q + 3) (λ _ q. read_term k bs e q) (λ i q. term_right k bs e q) 0 p n

  pub terms_only : (p n : ℕ) (r : Result (List Term × ℕ) TermFault) → TermRun p n r → read_terms k bs e p n ≡ r
  terms_only p n r h = run_only (λ _ q t. TermSays k bs e q t) (λ _ q _. q + 3) (λ _ q. read_term k bs e q) (λ i q r h. term_only k bs e q r h) 0 p n r h

  -- a term has three bytes
  pub terms_end : (p n : ℕ) (ts : List Term) (q : ℕ) → read_terms k bs e p n ≡ Ok (ts, q) → (length ts ≡ n) × (q ≡ p + 3 * n)
  terms_end p n ts q is =
      let h : TermRun p n (Ok (ts, q)) = subst (TermRun p n) is (terms_right p n) in
      let l : length ts ≡ n = h.0 in
      let s = stand_kept (λ _ q t. TermSays k bs e q t) (λ _ q _. q + 3) (λ i q. q ≡ p + 3 * i) (λ i q x a b. omega arith) 0 p ts q (omega arith) h.1 in
      (l, omega (arith, s))

  -- terms that are read end within the part
  pub terms_within : (p n : ℕ) (ts : List Term) (q : ℕ) → p ≤ e → read_terms k bs e p n ≡ Ok (ts, q) → q ≤ e
  terms_within p n ts q w is =
      let h : TermRun p n (Ok (ts, q)) = subst (TermRun p n) is (terms_right p n) in
      stand_kept (λ _ q t. TermSays k bs e q t) (λ _ q _. q + 3) (λ _ q. q ≤ e) (λ i q x a b. b.0) 0 p ts q w h.1

  -- what the reader does after predicate and arity
  atom_begun : (p : ℕ) → AtomBegins bs e p → read_atom k bs e p ≡ and_then (above atom_fault (read_terms k bs e (p + 3) (at bs (p + 2)))) (λ ts. Ok (record { predicate = pair bs p; terms = ts.0 }))
  atom_begun p b =
      let w = b.whole in
      rw (le-leb (p + 2) e (omega arith), le-leb (p + 2 + 1) e (omega arith), le-leb _ _ b.arity.some, le-leb _ _ b.arity.few) refl

  atom_cut : (p : ℕ) → e < p + 3 → read_atom k bs e p ≡ Err (CutShort (cut_at e))
  atom_cut p l = grind (arith, nat_tests)

  atom_arity : (p : ℕ) → p + 3 ≤ e → (ArityAllowed (at bs (p + 2)) → ⊥) → read_atom k bs e p ≡ Err (Arity (p + 2))
  atom_arity p w n =
      let m : (1 ≤ at bs (p + 2)) × (at bs (p + 2) ≤ 4) → ⊥ = λ h. n (record { some = h.0; few = h.1 }) in
      grind (arith, nat_tests)

  pub atom_only : (p : ℕ) (r : Result Formula AtomFault) → AtomSays k bs e p r → read_atom k bs e p ≡ r
  atom_only p (Ok a) h =
      let t = terms_only (p + 3) (at bs (p + 2)) (Ok (a.terms, p + 3 + 3 * length a.terms)) h.terms in
      atom_begun p h.begins
      ∙ ap (λ r. and_then (above atom_fault r) (λ ts. Ok (record { predicate = pair bs p; terms = ts.0 }))) t
      ∙ ap (λ n. Ok (record { predicate = n; terms = a.terms })) (sym h.predicate)
  atom_only p (Err f) (AtomWrong.no_beginning l is) = atom_cut p l ∙ ap (λ f. Err f) (sym is)
  atom_only p (Err f) (AtomWrong.wrong_arity w n is) = atom_arity p w n ∙ ap (λ f. Err f) (sym is)
  atom_only p (Err f) (AtomWrong.wrong_term b t h is) =
      atom_begun p b
      ∙ ap (λ r. and_then (above atom_fault r) (λ ts. Ok (record { predicate = pair bs p; terms = ts.0 }))) (terms_only (p + 3) (at bs (p + 2)) (Err t) h)
      ∙ ap (λ f. Err f) (sym is)

  -- what an atom is whose terms are r
  begun_some : (p : ℕ) → AtomBegins bs e p → (r : Result (List Term × ℕ) TermFault) → read_terms k bs e (p + 3) (at bs (p + 2)) ≡ r → (a : Result Formula AtomFault) × AtomSays k bs e p a
  begun_some p b (Ok ts) is =
      let n = at bs (p + 2) in
      let h : TermsSay k bs e p (Ok ts) = subst (TermRun (p + 3) n) is (terms_right (p + 3) n) in
      let t = terms_end (p + 3) n ts.0 ts.1 is in
      let l : length ts.0 ≡ at bs (p + 2) = t.0 in
      let q : ts.1 ≡ p + 3 + 3 * length ts.0 = omega (arith, t.1) in (
        Ok (record { predicate = pair bs p; terms = ts.0 }),
        record { begins = b; predicate = refl; terms = subst (λ (q : ℕ). TermsSay k bs e p (Ok (ts.0, q))) q h },
      )
  begun_some p b (Err t) is =
      (Err (atom_fault t), AtomWrong.wrong_term b t (subst (TermRun (p + 3) (at bs (p + 2))) is (terms_right (p + 3) (at bs (p + 2)))) refl)

  atom_some : (p : ℕ) → (r : Result Formula AtomFault) × AtomSays k bs e p r
  atom_some p =
      ⊎_elim
      (λ l. (Err (CutShort (cut_at e)), AtomWrong.no_beginning l refl))
      (λ w. ⊎_elim
      (λ h. begun_some p (record { whole = w; arity = record { some = h.0; few = h.1 } }) _ refl)
      (λ n. (Err (Arity (p + 2)), AtomWrong.wrong_arity w (λ h. n (h.some, h.few)) refl))
      (both_ends 1 (at bs (p + 2)) 4))
      (cases_lt e (p + 3))

  pub atom_right : (p : ℕ) → AtomSays k bs e p (read_atom k bs e p)
  atom_right p = said (AtomSays k bs e p) (read_atom k bs e p) (atom_only p) (atom_some p)

  pub atom_within : (p : ℕ) (a : Formula) → read_atom k bs e p ≡ Ok a → (p + span a ≤ e) × (1 ≤ length a.terms) × (length a.terms ≤ 4)
  atom_within p a is =
      let h : AtomSays k bs e p (Ok a) = subst (AtomSays k bs e p) is (atom_right p) in
      let l : length a.terms ≡ at bs (p + 2) = h.terms.0 in
      let t = terms_only (p + 3) (at bs (p + 2)) (Ok (a.terms, p + 3 + 3 * length a.terms)) h.terms in
      let w = terms_within (p + 3) (at bs (p + 2)) a.terms (p + 3 + 3 * length a.terms) h.begins.whole t in
      (omega (arith, w), omega (arith, h.begins.arity.some), omega (arith, h.begins.arity.few))

  pub atoms_right : (p n : ℕ) → AtomsSay k bs e p n (read_atoms k bs e p n)
  atoms_right p n = run_right (λ _ q a. AtomSays k bs e q a) (λ _ q a. q + span a) (λ _ q. read_atom k bs e q) (λ i q. atom_right q) 0 p n

  pub atoms_only : (p n : ℕ) (r : Result (List Formula × ℕ) AtomFault) → AtomsSay k bs e p n r → read_atoms k bs e p n ≡ r
  atoms_only p n r h = run_only (λ _ q a. AtomSays k bs e q a) (λ _ q a. q + span a) (λ _ q. read_atom k bs e q) (λ i q r h. atom_only q r h) 0 p n r h
