-- A fact volume that is read is the one that the bytes encode, and a fault is the first one there.
use Rattle.std.proofs.Common.{◌≡◌, ℕ, ◌+◌, ◌*◌, ◌<◌, ◌≤◌, cond, eqb, List, [], length, get_or, Ok, Err, Result, sym, refl, ap, ◌∙◌, subst, ⊎_elim, arith}
use Rattle.std.proofs.lemmas.Bool.{cases_eq, eq-eqb, ne_eqb}
use Rattle.rules.specs.Logic.{Formula}
use Rattle.volumes.specs.declared.kind.VolumeKind.TheVariants.{Facts}
use Rattle.faults.specs.declared.AtomFault.{AtomFault}
use Rattle.faults.specs.declared.VolumeFault.TheVariants.{Ends, Misplaced}
use Rattle.faults.specs.declared.Fault.{Fault}
use Rattle.faults.specs.Faults.{fault, in_volume, entry_fault}
use Rattle.volumes.specs.Layout.{AtomSays, span, count, contents_end, ContentsWhole, fact_place, FactWrong, FactEntry, FactsSay, EncodesFacts, FactVolumeWrong, FactVolumeSays}
use Rattle.volumes.specs.Reading.{and_then, above, read_atom, read_fact_entry, read_fact_entries, read_facts}
use Rattle.volumes.proofs.Steps.{said}
use Rattle.volumes.proofs.Runs.{run_right, run_only, stand_nth}
use Rattle.volumes.proofs.Atoms.{atom_right, atom_only, atom_within}
use Rattle.volumes.proofs.Counts.{whole_count, wrong_count, contents_some}

module _ (bs : List ℕ) where
  -- the reader at the place that the contents say
  placed : (i p : ℕ) → fact_place bs i ≡ p → read_fact_entry bs i p ≡ above (λ a. in_volume i (entry_fault a)) (read_atom Facts bs (length bs) p)
  placed i p e =
      ap (λ b. cond b (above (λ a. in_volume i (entry_fault a)) (read_atom Facts bs (length bs) p)) (Err (fault Misplaced i (3 + 2 * i)))) (eq-eqb (fact_place bs i) p e)

  pub fact_entry_only : (i p : ℕ) (r : Result Formula Fault) → FactEntry bs i p r → read_fact_entry bs i p ≡ r
  fact_entry_only i p (Ok a) h =
      placed i p h.0 ∙ ap (above (λ a. in_volume i (entry_fault a))) (atom_only Facts bs (length bs) p (Ok a) h.1)
  fact_entry_only i p (Err f) (FactWrong.misplaced n is) =
      ap (λ b. cond b (above (λ a. in_volume i (entry_fault a)) (read_atom Facts bs (length bs) p)) (Err (fault Misplaced i (3 + 2 * i)))) (ne_eqb (fact_place bs i) p n)
      ∙ ap (λ f. Err f) (sym is)
  fact_entry_only i p (Err f) (FactWrong.wrong_atom e a h is) =
      placed i p e ∙ ap (above (λ a. in_volume i (entry_fault a))) (atom_only Facts bs (length bs) p (Err a) h) ∙ ap (λ f. Err f) (sym is)

  placed_some : (i p : ℕ) → fact_place bs i ≡ p → (r : Result Formula AtomFault) → AtomSays Facts bs (length bs) p r → (x : Result Formula Fault) × FactEntry bs i p x
  placed_some i p e (Ok a) h = (Ok a, (e, h))
  placed_some i p e (Err a) h = (Err (in_volume i (entry_fault a)), FactWrong.wrong_atom e a h refl)

  pub fact_entry_right : (i p : ℕ) → FactEntry bs i p (read_fact_entry bs i p)
  fact_entry_right i p =
      said (FactEntry bs i p) (read_fact_entry bs i p) (fact_entry_only i p)
      (⊎_elim
      (λ e. placed_some i p e (read_atom Facts bs (length bs) p) (atom_right Facts bs (length bs) p))
      (λ n. (Err (fault Misplaced i (3 + 2 * i)), FactWrong.misplaced n refl))
      (cases_eq (fact_place bs i) p))

  pub fact_entries_right : FactsSay bs (read_fact_entries bs)
  fact_entries_right = run_right (FactEntry bs) (λ _ p a. p + span a) (read_fact_entry bs) fact_entry_right 0 (contents_end Facts bs) (count bs)

  pub fact_entries_only : (r : Result (List Formula × ℕ) Fault) → FactsSay bs r → read_fact_entries bs ≡ r
  fact_entries_only r h = run_only (FactEntry bs) (λ _ p a. p + span a) (read_fact_entry bs) fact_entry_only 0 (contents_end Facts bs) (count bs) r h

  -- the reader from each of its steps on
  abbrev last : List Formula × ℕ → Result (List Formula) Fault
  last xs = cond (eqb xs.1 (length bs)) (Ok xs.0) (Err (fault Ends 0 xs.1))

  abbrev rest : Result (List Formula) Fault
  rest = and_then (read_fact_entries bs) last

  after_contents : ContentsWhole Facts bs → read_facts bs ≡ rest
  after_contents h = ap (λ r. and_then r (λ _. rest)) (whole_count Facts bs h)

  pub facts_only : (r : Result (List Formula) Fault) → FactVolumeSays bs r → read_facts bs ≡ r
  facts_only (Ok xs) h =
      after_contents h.contents ∙ ap (λ r. and_then r last) (fact_entries_only (Ok (xs, length bs)) h.facts)
      ∙ ap (λ b. cond b (Ok xs) (Err (fault Ends 0 (length bs)))) (eq-eqb (length bs) (length bs) refl)
  facts_only (Err f) (FactVolumeWrong.contents w) = ap (λ r. and_then r (λ _. rest)) (wrong_count Facts bs f w)
  facts_only (Err f) (FactVolumeWrong.wrong_fact h e) = after_contents h ∙ ap (λ r. and_then r last) (fact_entries_only (Err f) e)
  facts_only (Err f) (FactVolumeWrong.ends h xs q e n is) =
      after_contents h ∙ ap (λ r. and_then r last) (fact_entries_only (Ok (xs, q)) e)
      ∙ ap (λ b. cond b (Ok xs) (Err (fault Ends 0 q))) (ne_eqb q (length bs) n)
      ∙ ap (λ f. Err f) (sym is)

  whole_some : ContentsWhole Facts bs → (r : Result (List Formula × ℕ) Fault) → FactsSay bs r → (x : Result (List Formula) Fault) × FactVolumeSays bs x
  whole_some c (Ok xs) h =
      ⊎_elim
      (λ e. (Ok xs.0, record { contents = c; facts = subst (λ (q : ℕ). FactsSay bs (Ok (xs.0, q))) e h }))
      (λ n. (Err (fault Ends 0 xs.1), FactVolumeWrong.ends c xs.0 xs.1 h n refl))
      (cases_eq xs.1 (length bs))
  whole_some c (Err f) h = (Err f, FactVolumeWrong.wrong_fact c h)

  pub facts_right : FactVolumeSays bs (read_facts bs)
  facts_right =
      said (FactVolumeSays bs) (read_facts bs) facts_only
      (⊎_elim
      (λ c. whole_some c (read_fact_entries bs) fact_entries_right)
      (λ w. (Err w.0, FactVolumeWrong.contents w.1))
      (contents_some Facts bs))

  -- of the facts xs of a volume that is read
  module _ (xs : List Formula) (is : read_facts bs ≡ Ok xs) where
    pub facts_encoded : EncodesFacts bs xs
    facts_encoded = subst (FactVolumeSays bs) is facts_right

    pub facts_count : length xs ≡ count bs
    facts_count = facts_encoded.facts.0

    pub facts_few : count bs ≤ 2048
    facts_few = facts_encoded.contents.few

    pub facts_contents : contents_end Facts bs ≤ length bs
    facts_contents = facts_encoded.contents.whole

    pub fact_at : (i : ℕ) → i < length xs → (d : Formula) → read_atom Facts bs (length bs) (fact_place bs i) ≡ Ok (get_or xs i d)
    fact_at i l d =
        let t = stand_nth (FactEntry bs) (λ _ p a. p + span a) (λ _ _. Unit {0}) (λ i p x a b. tt) 0 (contents_end Facts bs) xs (length bs) tt facts_encoded.facts.1 i l d in
        let x = get_or xs i d in
        let z : 0 + i ≡ i = omega arith in
        let h : FactEntry bs i t.0 (Ok x) = subst (λ (j : ℕ). FactEntry bs j t.0 (Ok x)) z t.2 in
        ap (read_atom Facts bs (length bs)) h.0 ∙ atom_only Facts bs (length bs) t.0 (Ok x) h.1

    -- where the fact begins and where it ends
    pub fact_within : (i : ℕ) → i < length xs → (d : Formula) → fact_place bs i + span (get_or xs i d) ≤ length bs
    fact_within i l d = (atom_within Facts bs (length bs) (fact_place bs i) (get_or xs i d) (fact_at i l d)).0

    pub fact_place_lem : (i : ℕ) → i < length xs → fact_place bs i ≤ length bs
    fact_place_lem i l = omega (arith, fact_within i l (record { predicate = 0; terms = [] }))
