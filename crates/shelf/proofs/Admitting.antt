-- What comes of admitting a rule, by what stands in the slots.
-- Assumes nothing.
use Rattle.std.proofs.Common.{◌≡◌, ℕ, ◌<◌, true, false, List, length, Some, None, Option, MatchOption, IsSome, Ok, Err, sym, ap, ◌∙◌, arith}
use Rattle.std.specs.Option.{ok_or, is_some}
use Rattle.std.proofs.lemmas.Bool.{lt-ltb, le-ltb, false≢true}
use Rattle.std.proofs.lemmas.Option.{slice_get-get_or}
use Rattle.faults.specs.declared.shelf.ShelfFault.TheVariants.{Full, AlreadyHeld, NoRule}
use Rattle.rules.specs.Logic.{Numbered}
use Rattle.volumes.specs.declared.rule_volume.NumberedRule.{NumberedRule}
use Rattle.volumes.specs.Answers.{Nth}
use Rattle.volumes.specs.Reading.{and_then}
use Rattle.volumes.specs.Volumes.{numbered}
use Rattle.shelf.specs.Slots.{slot, slot_has?, sorted}
use Rattle.shelf.specs.Held.{allowed, admission}
use Rattle.shelf.proofs.Slots.{none_sorted, some_sorted, all_sorted, fewer_sorted}

-- what a search for a slot found, where it found one, and where not
pub found : (P : Type 0) (Q : ℕ → Type 0) (o : Option ℕ) → MatchOption o P Q → true ≡ is_some o → (k : ℕ) × Q k
found P Q None m e = absurd (false≢true (sym e))
found P Q (Some k) m e = (k, m)

pub missed : (P : Type 0) (Q : ℕ → Type 0) (o : Option ℕ) → MatchOption o P Q → false ≡ is_some o → P
missed P Q None m e = m
missed P Q (Some k) m e = absurd (false≢true e)

module _ (slots : List (Option NumberedRule)) (volume : List Numbered) (i : ℕ) (x : NumberedRule) (nth : Nth volume i (numbered x)) where
  begins : admission (sorted slots) volume i ≡ allowed (sorted slots) (numbered x)
  begins = ap (λ o. and_then (ok_or o (NoRule i)) (allowed (sorted slots))) (slice_get-get_or volume i (numbered x) nth.0 ∙ ap Some (nth.1 (numbered x)))

  pub declined_held : (k : ℕ) → slot_has? x.number (slot slots k) ≡ true → admission (sorted slots) volume i ≡ Err (AlreadyHeld x.number)
  declined_held k h = begins ∙ rw (some_sorted x.number slots k h)

  module _ (long : length slots ≡ 64) (none : (k : ℕ) → slot_has? x.number (slot slots k) ≡ false) where
    pub declined_full : ((k : ℕ) → k < 64 → IsSome (slot slots k)) → admission (sorted slots) volume i ≡ Err (Full x.number)
    declined_full all =
        let n = all_sorted slots (λ k l. all k (omega (arith, l, long))) in
        begins ∙ rw (none_sorted x.number slots none, le-ltb (length (sorted slots)) 64 (omega (arith, n, long)))

    pub admits : (k : ℕ) → k < 64 → slot slots k ≡ None → admission (sorted slots) volume i ≡ Ok (numbered x)
    admits k l free =
        let n = fewer_sorted slots k (omega (arith, l, long)) free in
        begins ∙ rw (none_sorted x.number slots none, lt-ltb (length (sorted slots)) 64 (omega (arith, n, long)))
