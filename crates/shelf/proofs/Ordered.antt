-- Slots in the order of their rules' numbers.
use Rattle.std.proofs.Common.{◌≡◌, ℕ, zero, suc, ◌+◌, ◌<◌, ◌≤◌, ◌⊎◌, inl, inr, List, [], ◌∷◌, ◌++◌, map, length, take, drop, insert, get_or, set, Some, None, Option, IsSome, refl, ap, ◌∙◌, arith}
use Rattle.std.proofs.lemmas.Bool.{cases_lt, lt-ltb, le-ltb, false≢true}
use Rattle.std.proofs.lemmas.List.{drop_all}
use Rattle.std.proofs.lemmas.List.Edits.{length-insert}
use Rattle.std.proofs.lemmas.List.Sums.{prefix_len-le-length}
use Rattle.std.specs.List.{position_or_len}
use Rattle.rules.specs.Logic.{In}
use Rattle.volumes.specs.declared.rule_volume.NumberedRule.{NumberedRule}
use Rattle.shelf.specs.Slots.{slot, inserted, sorted}
use Rattle.shelf.specs.Grading.{rule_at, above?, Arranged}

-- the rule of slot k comes to those of the slots after it
pub sorted_more : (slots : List (Option NumberedRule)) (k : ℕ) → IsSome (slot slots k) → sorted (drop k slots) ≡ inserted (rule_at slots k) (sorted (drop (suc k) slots))
sorted_more [] k some = absurd (false≢true some)
sorted_more (None ∷ slots) zero some = absurd (false≢true some)
sorted_more (Some x ∷ slots) zero some = refl
sorted_more (o ∷ slots) (suc k) some = sorted_more slots k some

module _ (slots : List (Option NumberedRule)) where
  abbrev place_of : ℕ → List ℕ → ℕ
  place_of n order = position_or_len (above? slots n) order

  pub place_within : (n : ℕ) (order : List ℕ) → place_of n order ≤ length order
  place_within n order = prefix_len-le-length _ order

  -- the rule of slot k among those of the slots listed
  pub inserted_at : (k : ℕ) (order : List ℕ) → inserted (rule_at slots k) (map (rule_at slots) order) ≡ map (rule_at slots) (insert order (place_of (rule_at slots k).number order) k)
  inserted_at k [] = refl
  inserted_at k (i ∷ order) = at (cases_lt (rule_at slots k).number (rule_at slots i).number) (inserted_at k order)
    where
      at : ((rule_at slots k).number < (rule_at slots i).number) ⊎ ((rule_at slots i).number ≤ (rule_at slots k).number)
          → inserted (rule_at slots k) (map (rule_at slots) order) ≡ map (rule_at slots) (insert order (place_of (rule_at slots k).number order) k)
          → inserted (rule_at slots k) (map (rule_at slots) (i ∷ order)) ≡ map (rule_at slots) (insert (i ∷ order) (place_of (rule_at slots k).number (i ∷ order)) k)
      at (inl l) h = rw (lt-ltb (rule_at slots k).number (rule_at slots i).number l) refl
      at (inr l) h =
          let e : 1 + place_of (rule_at slots k).number order ≡ suc (place_of (rule_at slots k).number order) = omega arith in
          rw (le-ltb (rule_at slots k).number (rule_at slots i).number l, e) (ap (λ rs. rule_at slots i ∷ rs) h)

  in_insert : (j k n : ℕ) (order : List ℕ) → In j (insert order n k) → (j ≡ k) ⊎ In j order
  in_insert j k zero order h = h
  in_insert j k (suc n) [] h = h
  in_insert j k (suc n) (i ∷ order) h = elim h [
    | inl same ↦ inr (inl same)
    | inr rest ↦ elim (in_insert j k n order rest) [ inl same ↦ inl same | inr there ↦ inr (inr there) ]
  ]

  pub none_arranged : (k : ℕ) → length slots ≤ k → Arranged slots (sorted (drop k slots)) []
  none_arranged k past = record {
    rules = ap sorted (drop_all k slots past);
    held = λ i h. absurd h;
    within = λ i h. absurd h;
    few = omega arith;
  }

  -- slot k comes to it
  pub more_arranged : (k : ℕ) (order : List ℕ) → Arranged slots (sorted (drop (suc k) slots)) order → IsSome (slot slots k) → k < 64 → length order < 64
      → Arranged slots (sorted (drop k slots)) (insert order (place_of (rule_at slots k).number order) k)
  more_arranged k order arranged some low room = record {
    rules = sorted_more slots k some ∙ ap (inserted (rule_at slots k)) arranged.rules ∙ inserted_at k order;
    held = λ i h. elim (in_insert i k _ order h) [ inl same ↦ rw same some | inr there ↦ arranged.held i there ];
    within = λ i h. elim (in_insert i k _ order h) [ inl same ↦ rw same low | inr there ↦ arranged.within i there ];
    few = omega (arith, length-insert order (place_of (rule_at slots k).number order) k (place_within _ order));
  }

-- one number more is put into the list
pub put_more : (f : ℕ → ℕ) (xs ys : List ℕ) (k : ℕ) → k < length xs → k < length ys
    → set (map f (take k xs) ++ drop k ys) k (f (get_or xs k 0)) ≡ map f (take (suc k) xs) ++ drop (suc k) ys
put_more f [] ys k low here = absurd (omega arith)
put_more f (x ∷ xs) [] k low here = absurd (omega arith)
put_more f (x ∷ xs) (y ∷ ys) zero low here = refl
put_more f (x ∷ xs) (y ∷ ys) (suc k) low here = ap (λ zs. f x ∷ zs) (put_more f xs ys k (omega (arith, low)) (omega (arith, here)))
