-- A rule that is read is the one that stands there, and a fault is the first one there.
use Rattle.std.proofs.Common.{◌≡◌, ℕ, ◌+◌, ◌<◌, ◌≤◌, cond, ◌&&◌, eqb, leb, List, ◌++◌, length, Ok, Err, Result, sym, refl, ap, ◌∙◌, subst, ⊎_elim, arith}
use Rattle.std.proofs.lemmas.Bool.Decides.{nat_tests}
use Rattle.std.proofs.lemmas.List.{take_at, drop_at, length-take-le, take-append-drop}
use Rattle.std.proofs.lemmas.Bool.{cases_lt, cases_eq, le-leb, eq-eqb, ne_eqb, lt-leb}
use Rattle.rules.specs.Logic.{Formula, Implication}
use Rattle.rules.specs.Bounds.{existentials}
use Rattle.volumes.specs.declared.kind.VolumeKind.TheVariants.{Rules}
use Rattle.faults.specs.declared.AtomFault.{AtomFault}
use Rattle.faults.specs.declared.EntryFault.{EntryFault}
use Rattle.faults.specs.declared.EntryFault.TheVariants.{EntryEnded, Count, Left, Existentials}
use Rattle.faults.specs.Faults.{cut_at, entry_fault}
use Rattle.volumes.specs.Layout.{at, BodyCount, HeadCount, RuleBegins, RuleAtomsSay, RuleFilled, RuleWrong, RuleSays}
use Rattle.volumes.specs.Reading.{and_then, above, read_atoms, split, rule_of, read_rule}
use Rattle.volumes.proofs.Steps.{said, both_ends}
use Rattle.volumes.proofs.Atoms.{atoms_right, atoms_only}

-- the tests before the atoms, over any counts and any rest
module _ (s e n m : ℕ) (rest : Result Implication EntryFault) where
  abbrev counted : Result Implication EntryFault
  counted =
      cond (leb (s + 2) e)
      (cond (leb 1 n && leb n 6) (cond (leb 1 m && leb m 4) rest (Err (Count (s + 1)))) (Err (Count s)))
      (Err (EntryEnded (cut_at e)))

  counts_pass : s + 2 ≤ e → BodyCount n → HeadCount m → counted ≡ rest
  counts_pass w b h = rw (le-leb _ _ w, le-leb _ _ b.some, le-leb _ _ b.few, le-leb _ _ h.some, le-leb _ _ h.few) refl

  counts_cut : e < s + 2 → counted ≡ Err (EntryEnded (cut_at e))
  counts_cut l = rw (lt-leb _ _ l) refl

  bodies_wrong : s + 2 ≤ e → (BodyCount n → ⊥) → counted ≡ Err (Count s)
  bodies_wrong w k =
      let j : (1 ≤ n) × (n ≤ 6) → ⊥ = λ h. k (record { some = h.0; few = h.1 }) in
      grind (arith, nat_tests)

  heads_wrong : s + 2 ≤ e → BodyCount n → (HeadCount m → ⊥) → counted ≡ Err (Count (s + 1))
  heads_wrong w b k =
      let j : (1 ≤ m) × (m ≤ 4) → ⊥ = λ h. k (record { some = h.0; few = h.1 }) in
      rw (le-leb _ _ w, le-leb _ _ b.some, le-leb _ _ b.few) (grind (arith, nat_tests))

-- the tests after the atoms, over any rule and any count of existential variables
module _ (s e q new : ℕ) (r : Implication) where
  abbrev ended : Result Implication EntryFault
  ended = cond (eqb q e) (cond (leb new 4) (Ok r) (Err (Existentials s))) (Err (Left q))

  ended_ok : q ≡ e → new ≤ 4 → ended ≡ Ok r
  ended_ok a b = rw (eq-eqb _ _ a, le-leb _ _ b) refl

  ended_many : q ≡ e → 4 < new → ended ≡ Err (Existentials s)
  ended_many a b = rw (eq-eqb _ _ a, lt-leb _ _ b) refl

  ended_left : (q ≡ e → ⊥) → ended ≡ Err (Left q)
  ended_left a = rw (ne_eqb _ _ a) refl

split_same : (n : ℕ) (r : Implication) → length r.body ≡ n → split n (r.body ++ r.head) ≡ r
split_same n r l = λ i. record { body = take_at r.body r.head n l i; head = drop_at r.body r.head n l i }

module _ (bs : List ℕ) (e s : ℕ) where
  abbrev atoms_of : Result (List Formula × ℕ) AtomFault
  atoms_of = read_atoms Rules bs e (s + 2) (at bs s + at bs (s + 1))

  abbrev finish : Result (List Formula × ℕ) AtomFault → Result Implication EntryFault
  finish r = and_then (above entry_fault r) (λ xs. rule_of s e (at bs s) xs.0 xs.1)

  rule_begun : RuleBegins bs e s → read_rule bs e s ≡ finish atoms_of
  rule_begun b = counts_pass s e (at bs s) (at bs (s + 1)) (finish atoms_of) b.whole b.bodies b.heads

  rule_filled : (r : Implication) → RuleFilled bs e s r → read_rule bs e s ≡ rule_of s e (at bs s) (r.body ++ r.head) e
  rule_filled r h = rule_begun h.begins ∙ ap finish (atoms_only Rules bs e (s + 2) (at bs s + at bs (s + 1)) (Ok (r.body ++ r.head, e)) h.atoms)

  pub rule_only : (r : Result Implication EntryFault) → RuleSays bs e s r → read_rule bs e s ≡ r
  rule_only (Ok r) h =
      let same = split_same (at bs s) r h.filled.bodies in
      let x = split (at bs s) (r.body ++ r.head) in
      rule_filled r h.filled
      ∙ ended_ok s e e (existentials x) x refl (subst (λ (r : Implication). existentials r ≤ 4) (sym same) h.few_new)
      ∙ ap (λ r. Ok r) same
  rule_only (Err f) (RuleWrong.no_counts l is) = counts_cut s e (at bs s) (at bs (s + 1)) (finish atoms_of) l ∙ ap (λ f. Err f) (sym is)
  rule_only (Err f) (RuleWrong.body_count w n is) = bodies_wrong s e (at bs s) (at bs (s + 1)) (finish atoms_of) w n ∙ ap (λ f. Err f) (sym is)
  rule_only (Err f) (RuleWrong.head_count w b n is) = heads_wrong s e (at bs s) (at bs (s + 1)) (finish atoms_of) w b n ∙ ap (λ f. Err f) (sym is)
  rule_only (Err f) (RuleWrong.wrong_atom b a h is) =
      rule_begun b ∙ ap finish (atoms_only Rules bs e (s + 2) (at bs s + at bs (s + 1)) (Err a) h) ∙ ap (λ f. Err f) (sym is)
  rule_only (Err f) (RuleWrong.left_over b xs q h n is) =
      let x = split (at bs s) xs in
      rule_begun b ∙ ap finish (atoms_only Rules bs e (s + 2) (at bs s + at bs (s + 1)) (Ok (xs, q)) h)
      ∙ ended_left s e q (existentials x) x n ∙ ap (λ f. Err f) (sym is)
  rule_only (Err f) (RuleWrong.many_new r h l is) =
      let same = split_same (at bs s) r h.bodies in
      let x = split (at bs s) (r.body ++ r.head) in
      rule_filled r h
      ∙ ended_many s e e (existentials x) x refl (subst (λ (r : Implication). 4 < existentials r) (sym same) l)
      ∙ ap (λ f. Err f) (sym is)

  filled_some : (r : Implication) → RuleFilled bs e s r → (x : Result Implication EntryFault) × RuleSays bs e s x
  filled_some r h =
      ⊎_elim
      (λ l. (Err (Existentials s), RuleWrong.many_new r h l refl))
      (λ l. (Ok r, record { filled = h; few_new = l }))
      (cases_lt 4 (existentials r))

  -- what a rule is whose atoms are r
  begun_some : RuleBegins bs e s → (r : Result (List Formula × ℕ) AtomFault) → RuleAtomsSay bs e s r → (x : Result Implication EntryFault) × RuleSays bs e s x
  begun_some b (Ok xs) h =
      ⊎_elim
      (λ q.
      let n = at bs s in
      let l : length xs.0 ≡ at bs s + at bs (s + 1) = h.0 in
      let h2 : RuleAtomsSay bs e s (Ok (xs.0, e)) = subst (λ (q : ℕ). RuleAtomsSay bs e s (Ok (xs.0, q))) q h in
      filled_some (split n xs.0) (record {
        begins = b;
        bodies = length-take-le n xs.0 (omega arith);
        atoms = subst (λ (ys : List Formula). RuleAtomsSay bs e s (Ok (ys, e))) (sym (take-append-drop n xs.0)) h2;
      }))
      (λ n. (Err (Left xs.1), RuleWrong.left_over b xs.0 xs.1 h n refl))
      (cases_eq xs.1 e)
  begun_some b (Err a) h = (Err (entry_fault a), RuleWrong.wrong_atom b a h refl)

  rule_some : (x : Result Implication EntryFault) × RuleSays bs e s x
  rule_some =
      ⊎_elim
      (λ l. (Err (EntryEnded (cut_at e)), RuleWrong.no_counts l refl))
      (λ w. ⊎_elim
      (λ b. ⊎_elim
      (λ h. begun_some (record { whole = w; bodies = record { some = b.0; few = b.1 }; heads = record { some = h.0; few = h.1 } }) atoms_of
      (atoms_right Rules bs e (s + 2) (at bs s + at bs (s + 1))))
      (λ n. (Err (Count (s + 1)), RuleWrong.head_count w (record { some = b.0; few = b.1 }) (λ h. n (h.some, h.few)) refl))
      (both_ends 1 (at bs (s + 1)) 4))
      (λ n. (Err (Count s), RuleWrong.body_count w (λ h. n (h.some, h.few)) refl))
      (both_ends 1 (at bs s) 6))
      (cases_lt e (s + 2))

  pub rule_right : RuleSays bs e s (read_rule bs e s)
  rule_right = said (RuleSays bs e s) (read_rule bs e s) rule_only rule_some
