-- A rule volume that is read is the one that the bytes encode, and a fault is the first one there.
use Rattle.std.proofs.Common.{◌≡◌, ℕ, zero, suc, ◌+◌, ◌-◌, ◌*◌, ◌<◌, ◌≤◌, cond, eqb, List, length, get_or, Ok, Err, Result, sym, refl, ap, ◌∙◌, subst, ⊎_elim, add-zero, add-suc, add-one, arith}
use Rattle.std.proofs.lemmas.Bool.{cases_eq, eq-eqb, ne_eqb}
use Rattle.rules.specs.Logic.{Implication, Numbered}
use Rattle.volumes.specs.declared.kind.VolumeKind.TheVariants.{Rules}
use Rattle.faults.specs.declared.EntryFault.{EntryFault}
use Rattle.faults.specs.declared.VolumeFault.TheVariants.{Ends, NotRising}
use Rattle.faults.specs.declared.Fault.{Fault}
use Rattle.faults.specs.Faults.{fault, in_volume}
use Rattle.volumes.specs.Layout.{count, contents_end, ContentsWhole, number, extent, Rising, rules_end, RuleSays, RuleEntry, RulesSay, RulesBegin, EncodesRules, RuleVolumeWrong, RuleVolumeSays}
use Rattle.volumes.specs.Reading.{and_then, above, read_rule, read_rising, read_rule_entry, read_rule_entries, read_rules}
use Rattle.volumes.proofs.Steps.{said}
use Rattle.volumes.proofs.Runs.{run_right, run_only, stand_kept, stand_nth}
use Rattle.volumes.proofs.RuleBodies.{rule_right, rule_only}
use Rattle.volumes.proofs.Counts.{whole_count, wrong_count, contents_some, rising_all, rising_falls, rising_some}

module _ (bs : List ℕ) where
  -- where the rules end, one rule on, and never going back
  pub ends_more : (i : ℕ) → rules_end bs (i + 1) ≡ rules_end bs i + extent bs i
  ends_more i = ap (rules_end bs) (add-one i)

  ends_add : (i n : ℕ) → rules_end bs i ≤ rules_end bs (i + n)
  ends_add i zero = rw add-zero (omega arith)
  ends_add i (suc n) = let h = ends_add i n in rw add-suc (omega arith)

  pub ends_rise : (i n : ℕ) → i ≤ n → rules_end bs i ≤ rules_end bs n
  ends_rise i n h =
      let e : i + (n - i) ≡ n = omega arith in
      subst (λ (k : ℕ). rules_end bs i ≤ rules_end bs k) e (ends_add i (n - i))

  -- a rule before the last one ends before the last one does
  pub rule_within : (i n s : ℕ) → s ≡ rules_end bs i → i < n → s + extent bs i ≤ rules_end bs n
  rule_within i n s e l = let up = ends_rise (i + 1) n (omega arith) in let more = ends_more i in omega arith

  pub rule_entry_only : (i s : ℕ) (r : Result Numbered Fault) → RuleEntry bs i s r → read_rule_entry bs i s ≡ r
  rule_entry_only i s (Ok x) h =
      ap (λ r. and_then (above (in_volume i) r) (λ r. Ok (record { number = number bs i; rule = r }))) (rule_only bs (s + extent bs i) s (Ok x.rule) h.1)
      ∙ ap (λ n. Ok (record { number = n; rule = x.rule })) (sym h.0)
  rule_entry_only i s (Err f) h =
      ap (λ r. and_then (above (in_volume i) r) (λ r. Ok (record { number = number bs i; rule = r }))) (rule_only bs (s + extent bs i) s (Err h.0) h.1)
      ∙ ap (λ f. Err f) (sym h.2)

  entry_some : (i s : ℕ) (r : Result Implication EntryFault) → RuleSays bs (s + extent bs i) s r → (x : Result Numbered Fault) × RuleEntry bs i s x
  entry_some i s (Ok r) h = (Ok (record { number = number bs i; rule = r }), (refl, h))
  entry_some i s (Err g) h = (Err (in_volume i g), (g, h, refl))

  pub rule_entry_right : (i s : ℕ) → RuleEntry bs i s (read_rule_entry bs i s)
  rule_entry_right i s =
      said (RuleEntry bs i s) (read_rule_entry bs i s) (rule_entry_only i s)
      (entry_some i s (read_rule bs (s + extent bs i) s) (rule_right bs (s + extent bs i) s))

  pub rule_entries_right : RulesSay bs (read_rule_entries bs)
  rule_entries_right = run_right (RuleEntry bs) (λ i s _. s + extent bs i) (read_rule_entry bs) rule_entry_right 0 (contents_end Rules bs) (count bs)

  pub rule_entries_only : (r : Result (List Numbered × ℕ) Fault) → RulesSay bs r → read_rule_entries bs ≡ r
  rule_entries_only r h = run_only (RuleEntry bs) (λ i s _. s + extent bs i) (read_rule_entry bs) rule_entry_only 0 (contents_end Rules bs) (count bs) r h

  -- the rules end where the contents say
  entries_end : (xs : List Numbered) (q : ℕ) → RulesSay bs (Ok (xs, q)) → q ≡ rules_end bs (count bs)
  entries_end xs q h =
      let l : 0 + length xs ≡ count bs = omega (arith, h.0) in
      stand_kept (RuleEntry bs) (λ i s _. s + extent bs i) (λ i s. s ≡ rules_end bs i) (λ i s x a b. omega (arith, a, ends_more i)) 0 (contents_end Rules bs) xs q refl h.1
      ∙ ap (rules_end bs) l

  -- the reader from each of its steps on
  abbrev last : ℕ → Result (List Numbered) Fault
  last n = cond (eqb (rules_end bs n) (length bs)) (and_then (read_rule_entries bs) (λ xs. Ok xs.0)) (Err (fault Ends 0 (rules_end bs n)))

  abbrev rest : ℕ → Result (List Numbered) Fault
  rest n = and_then (read_rising bs 0 (n - 1)) (λ _. last n)

  after_contents : ContentsWhole Rules bs → read_rules bs ≡ rest (count bs)
  after_contents h = ap (λ r. and_then r rest) (whole_count Rules bs h)

  rising_reads : Rising bs (count bs) → read_rising bs 0 (count bs - 1) ≡ Ok tt
  rising_reads h = rising_all bs 0 (count bs - 1) (λ l a b. h l (omega arith))

  after_rising : ContentsWhole Rules bs → Rising bs (count bs) → read_rules bs ≡ last (count bs)
  after_rising h r = after_contents h ∙ ap (λ r. and_then r (λ _. last (count bs))) (rising_reads r)

  after_ends : RulesBegin bs → read_rules bs ≡ and_then (read_rule_entries bs) (λ xs. Ok xs.0)
  after_ends h =
      after_rising h.contents h.rising
      ∙ ap (λ b. cond b (and_then (read_rule_entries bs) (λ xs. Ok xs.0)) (Err (fault Ends 0 (rules_end bs (count bs))))) (eq-eqb _ _ h.ends)

  pub rules_only : (r : Result (List Numbered) Fault) → RuleVolumeSays bs r → read_rules bs ≡ r
  rules_only (Ok xs) h = after_ends h.begins ∙ ap (λ r. and_then r (λ xs. Ok xs.0)) (rule_entries_only (Ok (xs, length bs)) h.rules)
  rules_only (Err f) (RuleVolumeWrong.contents w) = ap (λ r. and_then r rest) (wrong_count Rules bs f w)
  rules_only (Err f) (RuleVolumeWrong.not_rising h i l rise falls is) =
      after_contents h
      ∙ ap (λ r. and_then r (λ _. last (count bs)))
      (rising_falls bs 0 (count bs - 1) (record { index = i; from = omega arith; below = omega arith; before = λ l a b. rise l (omega arith); falls = falls }))
      ∙ ap (λ f. Err f) (sym is)
  rules_only (Err f) (RuleVolumeWrong.ends h r n is) =
      after_rising h r
      ∙ ap (λ b. cond b (and_then (read_rule_entries bs) (λ xs. Ok xs.0)) (Err (fault Ends 0 (rules_end bs (count bs))))) (ne_eqb _ _ n)
      ∙ ap (λ f. Err f) (sym is)
  rules_only (Err f) (RuleVolumeWrong.wrong_rule h e) = after_ends h ∙ ap (λ r. and_then r (λ xs. Ok xs.0)) (rule_entries_only (Err f) e)

  begun_some : RulesBegin bs → (r : Result (List Numbered × ℕ) Fault) → RulesSay bs r → (x : Result (List Numbered) Fault) × RuleVolumeSays bs x
  begun_some b (Ok xs) h =
      let q : xs.1 ≡ length bs = entries_end xs.0 xs.1 h ∙ b.ends in
      (Ok xs.0, record { begins = b; rules = subst (λ (q : ℕ). RulesSay bs (Ok (xs.0, q))) q h })
  begun_some b (Err f) h = (Err f, RuleVolumeWrong.wrong_rule b h)

  rules_some : (x : Result (List Numbered) Fault) × RuleVolumeSays bs x
  rules_some =
      ⊎_elim
      (λ h. ⊎_elim
      (λ r.
      let rise : Rising bs (count bs) = λ i l. r i (omega arith) (omega arith) in
      ⊎_elim
      (λ e. begun_some (record { contents = h; rising = rise; ends = e }) (read_rule_entries bs) rule_entries_right)
      (λ n. (Err (fault Ends 0 (rules_end bs (count bs))), RuleVolumeWrong.ends h rise n refl))
      (cases_eq (rules_end bs (count bs)) (length bs)))
      (λ u.
      let below = u.below in (
        Err (fault NotRising (u.index + 1) (3 + 4 * (u.index + 1))),
        RuleVolumeWrong.not_rising h u.index (omega arith) (λ i l. u.before i (omega arith) (omega arith)) u.falls refl,
      ))
      (rising_some bs 0 (count bs - 1)))
      (λ w. (Err w.0, RuleVolumeWrong.contents w.1))
      (contents_some Rules bs)

  pub rules_right : RuleVolumeSays bs (read_rules bs)
  rules_right = said (RuleVolumeSays bs) (read_rules bs) rules_only rules_some

  -- of the rules xs of a volume that is read
  module _ (xs : List Numbered) (is : read_rules bs ≡ Ok xs) where
    pub rules_encoded : EncodesRules bs xs
    rules_encoded = subst (RuleVolumeSays bs) is rules_right

    pub rules_count : length xs ≡ count bs
    rules_count = rules_encoded.rules.0

    pub rules_few : count bs ≤ 64
    rules_few = rules_encoded.begins.contents.few

    pub rules_contents : contents_end Rules bs ≤ length bs
    rules_contents = rules_encoded.begins.contents.whole

    pub rule_at : (i : ℕ) → i < length xs → (d : Numbered) → (read_rule bs (rules_end bs (i + 1)) (rules_end bs i) ≡ Ok (get_or xs i d).rule) × (number bs i ≡ (get_or xs i d).number) × (rules_end bs (i + 1) ≤ length bs)
    rule_at i l d =
        let t = stand_nth (RuleEntry bs) (λ i s _. s + extent bs i) (λ i s. s ≡ rules_end bs i) (λ i s x a b. omega (arith, a, ends_more i)) 0 (contents_end Rules bs) xs (length bs) refl rules_encoded.rules.1 i l d in
        let x = get_or xs i d in
        let z : 0 + i ≡ i = omega arith in
        let s : t.0 ≡ rules_end bs i = t.1 ∙ ap (rules_end bs) z in
        let h : RuleEntry bs i (rules_end bs i) (Ok x) = subst (λ (s : ℕ). RuleEntry bs i s (Ok x)) s (subst (λ (j : ℕ). RuleEntry bs j t.0 (Ok x)) z t.2) in
        let n : length xs ≡ count bs = rules_count in
        let up = ends_rise (i + 1) (count bs) (omega arith) in
        let e = rules_encoded.begins.ends in
        (ap (λ e. read_rule bs e (rules_end bs i)) (ends_more i) ∙ rule_only bs (rules_end bs i + extent bs i) (rules_end bs i) (Ok x.rule) h.1, sym h.0, omega arith)
