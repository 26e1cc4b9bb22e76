-- The least numbering of the slots as one of the rules in them.
use Rattle.std.proofs.Common.{◌≡◌, ℕ, ◌<◌, ◌≤◌, ◌↔◌, true, inl, inr, List, [], ◌∷◌, ◌++◌, map, length, drop, get_or, Some, None, Option, IsSome, is_some, Ok, Err, Result, sym, refl, ap, subst, ◌∙◌, arith}
use Rattle.std.proofs.lemmas.Bool.{eq-eqb, cases_lt, false≢true}
use Rattle.std.proofs.lemmas.List.{length-map, get_or_past}
use Rattle.std.proofs.lemmas.List.Sums.{passes_at_first, fails_before_first}
use Rattle.std.specs.List.{position_or_len}
use Rattle.faults.specs.declared.shelf.ShelfFault.{ShelfFault}
use Rattle.rules.specs.Logic.{In, Each, Implication, Numbered}
use Rattle.rules.specs.Reliances.{Keeps}
use Rattle.volumes.specs.declared.rule_volume.NumberedRule.{NumberedRule}
use Rattle.volumes.specs.Volumes.{numbered}
use Rattle.volumes.specs.Reading.{and_then}
use Rattle.reliances.specs.declared.sheet.Kind.{Kind}
use Rattle.reliances.specs.declared.sheet.Kind.TheVariants.{Positive, Restraint}
use Rattle.reliances.specs.Sheets.{Holds}
use Rattle.grades.specs.declared.slots.Slots.{Slots}
use Rattle.grades.specs.declared.pairs.Pairs.{Pairs}
use Rattle.grades.specs.Pairs.{HasSlot, Related, In as Among, Distinct, Count, PairCount}
use Rattle.grades.specs.Numbering.{Keeps as KeepsSlots, LeastOfSlots}
use Rattle.shelf.specs.Slots.{slot, slot_has?, sorted}
use Rattle.shelf.specs.Held.{under}
use Rattle.shelf.specs.Calls.{Related as RelatedRules, LeastNumbering}
use Rattle.shelf.specs.Grading.{rule_in, rule_at, HoldIn, HoldAt, Arranged}
use Rattle.shelf.proofs.Slots.{under_slot, slot_under, sorted_slot, slot_sorted}

-- ---- counts

module _ {A B : Type 0} (P : A → Type 0) (Q : B → Type 0) (f : A → B) (apart : (x y : A) → P x → P y → f x ≡ f y → x ≡ y)
    (into : (x : A) → P x → Q (f x)) (onto : (y : B) → Q y → (x : A) × P x × (f x ≡ y)) where
  in_map : (x : A) (xs : List A) → Among x xs → Among (f x) (map f xs)
  in_map x [] h = absurd h
  in_map x (y ∷ xs) h = elim h [ inl same ↦ inl (ap f same) | inr rest ↦ inr (in_map x xs rest) ]

  from_map : (y : B) (xs : List A) → Among y (map f xs) → (x : A) × Among x xs × (y ≡ f x)
  from_map y [] h = absurd h
  from_map y (x ∷ xs) h = elim h [ inl same ↦ (x, inl refl, same) | inr rest ↦ let w = from_map y xs rest in (w.0, inr w.1, w.2) ]

  once_map : (xs : List A) → ((x : A) → Among x xs → P x) → Distinct xs → Distinct (map f xs)
  once_map [] each once = tt
  once_map (x ∷ xs) each once = (
    λ h. let w = from_map (f x) xs h in once.0 (subst (λ z. Among z xs) (apart w.0 x (each w.0 (inr w.1)) (each x (inl refl)) (sym w.2)) w.1),
    once_map xs (λ y h. each y (inr h)) once.1,
  )

  -- the things that f takes each to one of its own are as many
  pub count_mapped : (n : ℕ) → Count P n → Count Q n
  count_mapped n c = (
    map f c.0,
    record {
      each = λ y h. let w = from_map y c.0 h in subst Q (sym w.2) (into w.0 (c.1.each w.0 w.1));
      all = λ y h. let w = onto y h in subst (λ z. Among z (map f c.0)) w.2 (in_map w.0 c.0 (c.1.all w.0 w.1));
      once = once_map c.0 c.1.each c.1.once;
    },
    length-map c.0 f ∙ c.2,
  )

-- ---- the rule in a slot

own_number : (o : Option NumberedRule) → IsSome o → slot_has? (rule_in o).number o ≡ true
own_number None some = absurd (false≢true some)
own_number (Some x) some = eq-eqb x.number x.number refl

has_some : (n : ℕ) (o : Option NumberedRule) → slot_has? n o ≡ true → IsSome o
has_some n None h = absurd (false≢true h)
has_some n (Some x) h = refl

the_rule : (o : Option NumberedRule) → IsSome o → (x : NumberedRule) × (o ≡ Some x)
the_rule None some = absurd (false≢true some)
the_rule (Some x) some = (x, refl)

first_held : (kind : Kind) (a b : Option NumberedRule) → HoldIn kind a b → IsSome a
first_held kind None b h = absurd h
first_held kind (Some x) b h = refl

second_held : (kind : Kind) (a b : Option NumberedRule) → HoldIn kind a b → IsSome b
second_held kind None b h = absurd h
second_held kind (Some x) None h = absurd h
second_held kind (Some x) (Some y) h = refl

between : (kind : Kind) (a b : Option NumberedRule) → HoldIn kind a b → Holds kind (rule_in a).rule (rule_in b).rule
between kind None b h = absurd h
between kind (Some x) None h = absurd h
between kind (Some x) (Some y) h = h

held_between : (kind : Kind) (a b : Option NumberedRule) → IsSome a → IsSome b → Holds kind (rule_in a).rule (rule_in b).rule → HoldIn kind a b
held_between kind None b ha hb h = absurd (false≢true ha)
held_between kind (Some x) None ha hb h = absurd (false≢true hb)
held_between kind (Some x) (Some y) ha hb h = h

-- what is answered of two is answered of each
abbrev both_of : Result Implication ShelfFault → Result Implication ShelfFault → Result (Implication × Implication) ShelfFault
both_of p q = and_then p (λ x. and_then q (λ y. Ok (x, y)))

both_held : (p q : Result Implication ShelfFault) (A B : Implication) → both_of p q ≡ Ok (A, B) → (p ≡ Ok A) × (q ≡ Ok B)
both_held (Err f) q A B e = absurd (let z : ◌≡◌ {A = Result (Implication × Implication) ShelfFault} (Err f) (Ok (A, B)) = e in cc)
both_held (Ok x) (Err f) A B e = absurd (let z : ◌≡◌ {A = Result (Implication × Implication) ShelfFault} (Err f) (Ok (A, B)) = e in cc)
both_held (Ok x) (Ok y) A B e =
    let z : ◌≡◌ {A = Result (Implication × Implication) ShelfFault} (Ok (x, y)) (Ok (A, B)) = e in
    let same : ◌≡◌ {A = Implication × Implication} (x, y) (A, B) = cc in
    (ap (λ q. Ok q.0) same, ap (λ q. Ok q.1) same)

module _ (slots : List (Option NumberedRule)) where
  rule_held : (i : ℕ) → IsSome (slot slots i) → In (rule_at slots i) (sorted slots)
  rule_held i some = let w = the_rule (slot slots i) some in subst (λ a. In a (sorted slots)) (ap rule_in (sym w.1)) (slot_sorted slots i w.0 w.1)

  slot_of : (a : Numbered) → In a (sorted slots) → (i : ℕ) × IsSome (slot slots i) × (rule_at slots i ≡ a)
  slot_of a h = let w = sorted_slot a slots h in (w.0, ap (λ o. is_some o) w.2, ap rule_in w.2 ∙ w.3)

  -- ---- what the pairs of slots say of the rules
  module _ (held : Slots) (p r : Pairs) (has : (i : ℕ) → HasSlot held i ↔ IsSome (slot slots i))
      (is_p : (i j : ℕ) → Related p i j ↔ HoldAt Positive slots i j) (is_r : (i j : ℕ) → Related r i j ↔ HoldAt Restraint slots i j) where
    by_slots : (grade : ℕ → ℕ) → Keeps (sorted slots) grade → KeepsSlots (HasSlot held) (Related p) (Related r) (λ i. grade (rule_at slots i).number)
    by_slots grade keeps = record {
      at_most = λ i j hi hj q. (both i j hi hj).0 (between Positive (slot slots i) (slot slots j) ((is_p i j).0 q));
      less_than = λ i j hi hj q. (both i j hi hj).1 (between Restraint (slot slots i) (slot slots j) ((is_r i j).0 q));
    }
      where
        both : (i j : ℕ) → HasSlot held i → HasSlot held j
            → (Holds Positive (rule_at slots i).rule (rule_at slots j).rule → grade (rule_at slots i).number ≤ grade (rule_at slots j).number)
            × (Holds Restraint (rule_at slots i).rule (rule_at slots j).rule → grade (rule_at slots i).number < grade (rule_at slots j).number)
        both i j hi hj = keeps (rule_at slots i) (rule_at slots j) (rule_held i ((has i).0 hi)) (rule_held j ((has j).0 hj))

    pub none_of_rules : ((number : ℕ → ℕ) → KeepsSlots (HasSlot held) (Related p) (Related r) number → ⊥) → (grade : ℕ → ℕ) → Keeps (sorted slots) grade → ⊥
    none_of_rules none grade keeps = none (λ i. grade (rule_at slots i).number) (by_slots grade keeps)

    -- a rule's number is that of its slot
    module _ (numbers : List ℕ) (least : LeastOfSlots held p r numbers) (grade : ℕ → ℕ)
        (is : (i : ℕ) → IsSome (slot slots i) → grade (rule_at slots i).number ≡ get_or numbers i 0) where
      same : (a : Numbered) (h : In a (sorted slots)) → grade a.number ≡ get_or numbers (slot_of a h).0 0
      same a h = let w = slot_of a h in ap (λ b. grade b.number) (sym w.2) ∙ is w.0 w.1

      keeps_rules : Keeps (sorted slots) grade
      keeps_rules a b ha hb =
          let x = slot_of a ha in
          let y = slot_of b hb in
          let hx = (has x.0).1 x.1 in
          let hy = (has y.0).1 y.1 in (
            λ q.
                let z = least.least.keeps.at_most x.0 y.0 hx hy ((is_p x.0 y.0).1 (held_between Positive _ _ x.1 y.1 (rw (x.2, y.2) q))) in
                omega (arith, same a ha, same b hb),
            λ q.
                let z = least.least.keeps.less_than x.0 y.0 hx hy ((is_r x.0 y.0).1 (held_between Restraint _ _ x.1 y.1 (rw (x.2, y.2) q))) in
                omega (arith, same a ha, same b hb),
          )

      least_of_rules : (other : ℕ → ℕ) → Keeps (sorted slots) other → Each (λ a. grade a.number ≤ other a.number) (sorted slots)
      least_of_rules other keeps a h =
          let w = slot_of a h in
          let low = least.least.least (λ i. other (rule_at slots i).number) (by_slots other keeps) w.0 ((has w.0).1 w.1) in
          let e : other (rule_at slots w.0).number ≡ other a.number = ap (λ b. other b.number) w.2 in
          omega (arith, same a h)

      pub least_numbering : LeastNumbering (sorted slots) grade
      least_numbering = record { keeps = keeps_rules; least = least_of_rules }

  -- ---- where no number stands in two slots
  module _ (apart : (n i j : ℕ) → slot_has? n (slot slots i) ≡ true → slot_has? n (slot slots j) ≡ true → i ≡ j) where
    -- the number of the slot in which the rule of number n stands
    pub grade_of : List ℕ → ℕ → ℕ
    grade_of numbers n = get_or numbers (position_or_len (slot_has? n) slots) 0

    found : (n i : ℕ) → slot_has? n (slot slots i) ≡ true → position_or_len (slot_has? n) slots ≡ i
    found n i h = elim (cases_lt i (position_or_len (slot_has? n) slots)) [
      | inl before ↦ absurd (false≢true (sym (fails_before_first (slot_has? n) slots i None before) ∙ h))
      | inr past ↦ elim (cases_lt i (length slots)) [
        | inl low ↦ apart n _ i (passes_at_first (slot_has? n) slots None (omega arith)) h
        | inr high ↦ absurd (false≢true (sym (ap (slot_has? n) (get_or_past slots i None high)) ∙ h))
      ]
    ]

    pub grade_at : (numbers : List ℕ) (i : ℕ) → IsSome (slot slots i) → grade_of numbers (rule_at slots i).number ≡ get_or numbers i 0
    unfolding grade_of
    grade_at numbers i some = ap (λ k. get_or numbers k 0) (found (rule_at slots i).number i (own_number (slot slots i) some))

    -- pairs of slots with rules of the same numbers are the same
    same_slot : (i j : ℕ) → IsSome (slot slots i) → IsSome (slot slots j) → (rule_at slots i).number ≡ (rule_at slots j).number → i ≡ j
    same_slot i j hi hj e =
        apart (rule_at slots i).number i j (own_number (slot slots i) hi) (rw e (own_number (slot slots j) hj))

    module _ (kind : Kind) where
      numbers_of : ℕ × ℕ → ℕ × ℕ
      numbers_of q = ((rule_at slots q.0).number, (rule_at slots q.1).number)

      abbrev HoldPair : ℕ × ℕ → Type 0
      HoldPair q = HoldAt kind slots q.0 q.1

      pairs_apart : (x y : ℕ × ℕ) → HoldPair x → HoldPair y → numbers_of x ≡ numbers_of y → x ≡ y
      unfolding numbers_of
      pairs_apart x y hx hy e =
          let first = same_slot x.0 y.0 (first_held kind _ _ hx) (first_held kind _ _ hy) (ap (λ q. q.0) e) in
          let second = same_slot x.1 y.1 (second_held kind _ _ hx) (second_held kind _ _ hy) (ap (λ q. q.1) e) in
          λ i. (first i, second i)

      under_at : (i : ℕ) → IsSome (slot slots i) → under (sorted slots) (rule_at slots i).number ≡ Ok (rule_at slots i).rule
      under_at i some =
          let w = the_rule (slot slots i) some in
          let at : rule_at slots i ≡ numbered w.0 = ap rule_in w.1 in
          under_slot _ slots i w.0 (apart _) w.1 (ap (λ a. a.number) (sym at)) ∙ ap (λ a. Ok a.rule) (sym at)

      rules_related : (q : ℕ × ℕ) → HoldPair q → RelatedRules kind (sorted slots) (numbers_of q).0 (numbers_of q).1
      unfolding numbers_of
      rules_related q h =
          let first = under_at q.0 (first_held kind _ _ h) in
          let second = under_at q.1 (second_held kind _ _ h) in
          ((rule_at slots q.0).rule, (rule_at slots q.1).rule, rw (first, second) refl, between kind _ _ h)

      slots_related : (n : ℕ × ℕ) → RelatedRules kind (sorted slots) n.0 n.1 → (q : ℕ × ℕ) × HoldPair q × (numbers_of q ≡ n)
      unfolding numbers_of
      slots_related n h =
          let both = both_held (under (sorted slots) n.0) (under (sorted slots) n.1) h.0 h.1 h.2 in
          let x = slot_under n.0 slots h.0 both.0 in
          let y = slot_under n.1 slots h.1 both.1 in (
            (x.0, y.0),
            subst (λ a. HoldIn kind a (slot slots y.0)) (sym x.2) (subst (λ b. HoldIn kind (Some x.1) b) (sym y.2) (rw (x.4, y.4) h.3)),
            λ i. ((ap (λ o. (rule_in o).number) x.2 ∙ x.3) i, (ap (λ o. (rule_in o).number) y.2 ∙ y.3) i),
          )

      -- there are as many pairs of rules as of slots
      pub rule_pairs : (p : Pairs) → ((i j : ℕ) → Related p i j ↔ HoldAt kind slots i j) → (n : ℕ) → PairCount (Related p) n → PairCount (RelatedRules kind (sorted slots)) n
      rule_pairs p is n =
          count_mapped (λ q. Related p q.0 q.1) (λ q. RelatedRules kind (sorted slots) q.0 q.1) numbers_of
          (λ x y hx hy. pairs_apart x y ((is x.0 x.1).0 hx) ((is y.0 y.1).0 hy))
          (λ x h. rules_related x ((is x.0 x.1).0 h))
          (λ y h. let w = slots_related y h in (w.0, (is w.0.0 w.0.1).1 w.1, w.2)) n

    -- the numbers of the rules are those of their slots
    listed : (numbers order : List ℕ) → Each (λ i. IsSome (slot slots i)) order
        → map (λ a. grade_of numbers a.number) (map (rule_at slots) order) ≡ map (λ i. get_or numbers i 0) order
    listed numbers [] held = refl
    listed numbers (i ∷ order) held = λ k. grade_at numbers i (held i (inl refl)) k ∷ listed numbers order (λ j h. held j (inr h)) k

    pub the_list : (numbers order before : List ℕ) → Arranged slots (sorted slots) order
        → map (λ i. get_or numbers i 0) order ++ drop (length order) before
        ≡ map (λ a. grade_of numbers a.number) (sorted slots) ++ drop (length (sorted slots)) before
    the_list numbers order before arranged =
        let rules : sorted slots ≡ map (rule_at slots) order = arranged.rules in
        let long : length (sorted slots) ≡ length order = ap length rules ∙ length-map order (rule_at slots) in
        let same : map (λ a. grade_of numbers a.number) (sorted slots) ≡ map (λ i. get_or numbers i 0) order
        = ap (map (λ a. grade_of numbers a.number)) rules ∙ listed numbers order arranged.held in
        rw (same, long) refl
