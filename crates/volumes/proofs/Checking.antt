-- One turn of each loop over a volume, and what the check then answers.
use Rattle.std.proofs.Common.{◌≡◌, ℕ, suc, ◌+◌, ◌-◌, ◌*◌, ◌<◌, ◌≤◌, cond, ltb, List, Ok, Err, Result, sym, ap, ◌∙◌, arith}
use Rattle.std.proofs.lemmas.Bool.{lt-ltb}
use Rattle.rules.specs.Logic.{Formula, Implication, Numbered}
use Rattle.faults.specs.declared.EntryFault.{EntryFault}
use Rattle.faults.specs.declared.VolumeFault.TheVariants.{NotRising}
use Rattle.faults.specs.declared.Fault.{Fault}
use Rattle.faults.specs.Faults.{fault, in_volume}
use Rattle.volumes.specs.Layout.{number, extent, count, span, RuleVolumeSays, FactVolumeSays}
use Rattle.volumes.specs.Reading.{and_then, above, read_run, read_rule, read_rising, read_rule_entry, read_rule_entries, read_rules, read_fact_entry, read_fact_entries, read_facts}
use Rattle.volumes.specs.Answers.{TheAnswer}
use Rattle.volumes.proofs.RuleVolumes.{rules_right, rules_only}
use Rattle.volumes.proofs.FactVolumes.{facts_right, facts_only}

-- the model's answer is the one that the layout allows
pub rules_exact : (bs : List ℕ) → TheAnswer (RuleVolumeSays bs) (read_rules bs)
rules_exact bs = record { right = rules_right bs; only = λ b h. sym (rules_only bs b h) }

pub facts_exact : (bs : List ℕ) → TheAnswer (FactVolumeSays bs) (read_facts bs)
facts_exact bs = record { right = facts_right bs; only = λ b h. sym (facts_only bs b h) }

module _ (bs : List ℕ) where
  -- the numbers from that of index i - 1 on
  pub rising_more : (i n : ℕ) → 1 ≤ i → i < n → read_rising bs (i - 1) (n - i) ≡ cond (ltb (number bs (i - 1)) (number bs i)) (read_rising bs i (n - (i + 1))) (Err (fault NotRising i (3 + 4 * i)))
  rising_more i n h l =
      let e : n - i ≡ suc (n - (i + 1)) = omega arith in
      let d : i - 1 + 1 ≡ i = omega arith in
      ap (read_rising bs (i - 1)) e
      ∙ ap (λ j. cond (ltb (number bs (i - 1)) (number bs j)) (read_rising bs j (n - (i + 1))) (Err (fault NotRising j (3 + 4 * j)))) d

  pub rising_on : (i n : ℕ) → 1 ≤ i → i < n → number bs (i - 1) < number bs i → read_rising bs (i - 1) (n - i) ≡ read_rising bs (i + 1 - 1) (n - (i + 1))
  rising_on i n h l up =
      let d : i ≡ i + 1 - 1 = omega arith in
      rising_more i n h l ∙ ap (λ b. cond b (read_rising bs i (n - (i + 1))) (Err (fault NotRising i (3 + 4 * i)))) (lt-ltb (number bs (i - 1)) (number bs i) up)
      ∙ ap (λ j. read_rising bs j (n - (i + 1))) d

  -- the fault of an entry, as one of the volume
  pub rule_entry_ok : (i s e : ℕ) (r : Implication) → e ≡ s + extent bs i → read_rule bs e s ≡ Ok r → read_rule_entry bs i s ≡ Ok (record { number = number bs i; rule = r })
  rule_entry_ok i s e r end is =
      ap (λ x. and_then (above (in_volume i) x) (λ r. Ok (record { number = number bs i; rule = r }))) (ap (λ d. read_rule bs d s) (sym end) ∙ is)

  pub rule_entry_err : (i s e : ℕ) (f : EntryFault) → e ≡ s + extent bs i → read_rule bs e s ≡ Err f → read_rule_entry bs i s ≡ Err (in_volume i f)
  rule_entry_err i s e f end is =
      ap (λ x. and_then (above (in_volume i) x) (λ r. Ok (record { number = number bs i; rule = r }))) (ap (λ d. read_rule bs d s) (sym end) ∙ is)

  -- so many entries as the contents say, from where the contents end
  pub rule_entries : (n : ℕ) (r : Result (List Numbered × ℕ) Fault) → n ≡ count bs → read_run (read_rule_entry bs) (λ i s _. s + extent bs i) 0 (3 + 4 * n) n ≡ r → read_rule_entries bs ≡ r
  rule_entries n r e h = ap (λ k. read_run (read_rule_entry bs) (λ i s _. s + extent bs i) 0 (3 + 4 * k) k) (sym e) ∙ h

  pub fact_entries : (n : ℕ) (r : Result (List Formula × ℕ) Fault) → n ≡ count bs → read_run (read_fact_entry bs) (λ _ p a. p + span a) 0 (3 + 2 * n) n ≡ r → read_fact_entries bs ≡ r
  fact_entries n r e h = ap (λ k. read_run (read_fact_entry bs) (λ _ p a. p + span a) 0 (3 + 2 * k) k) (sym e) ∙ h
