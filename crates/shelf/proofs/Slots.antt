-- What stands in the slots, as the rules by rising number.
-- Assumes nothing.
use Rattle.std.proofs.Common.{◌≡◌, ℕ, zero, suc, ◌+◌, ◌<◌, ◌≤◌, ◌≢◌, Bool, true, false, cond, not, ◌||◌, ◌⊎◌, List, [], ◌∷◌, length, set, replicate, Some, None, Option, IsSome, Ok, Err, Result, sym, refl, ap, subst, inl, inr, ⊎_elim, ◌∙◌, arith}
use Rattle.std.specs.List.{filter}
use Rattle.std.proofs.lemmas.Bool.{eqb-true, eq-eqb, cases_eq, cases_lt, lt-ltb, le-ltb, false≢true}
use Rattle.std.proofs.lemmas.List.{get_or-set_same, get_or-set_other}
use Rattle.faults.specs.declared.shelf.ShelfFault.{ShelfFault}
use Rattle.faults.specs.declared.shelf.ShelfFault.TheVariants.{NotHeld}
use Rattle.rules.specs.Logic.{In, Implication, Numbered}
use Rattle.rules.specs.Bounds.{some}
use Rattle.rules.specs.Rules.{meaning}
use Rattle.volumes.specs.declared.rule_volume.NumberedRule.{NumberedRule}
use Rattle.volumes.specs.Volumes.{numbered}
use Rattle.shelf.specs.Slots.{slot, slot_has?, inserted, sorted}
use Rattle.shelf.specs.Held.{has_number?, under, without, done}

-- ---- rules by rising number

neither : (a b : Bool) → (a || b) ≡ false → (a ≡ false) × (b ≡ false)
neither true b e = absurd (false≢true (sym e))
neither false b e = (refl, e)

or_swap : (a b c : Bool) → (a || (b || c)) ≡ (b || (a || c))
or_swap true true c = refl
or_swap true false c = refl
or_swap false b c = refl

-- x is put before z and more, or after z
first : (x z : Numbered) (zs : List Numbered) → x.number < z.number → inserted x (z ∷ zs) ≡ x ∷ (z ∷ zs)
first x z zs l = rw (lt-ltb x.number z.number l)

later : (x z : Numbered) (zs : List Numbered) → z.number ≤ x.number → inserted x (z ∷ zs) ≡ z ∷ inserted x zs
later x z zs l = rw (le-ltb x.number z.number l)

-- two that are put in come to stand in the same places, whichever is put in first
inserted_apart : (x y : Numbered) (zs : List Numbered) → x.number ≢ y.number → inserted x (inserted y zs) ≡ inserted y (inserted x zs)
inserted_apart x y [] ne = ⊎_elim
    (λ (l : x.number < y.number). first x y [] l ∙ sym (later y x [] (omega arith)))
    (λ (l : y.number ≤ x.number). later x y [] l ∙ sym (first y x [] (omega arith)))
    (cases_lt x.number y.number)
inserted_apart x y (z ∷ zs) ne = at (inserted_apart x y zs ne) (cases_lt x.number z.number) (cases_lt y.number z.number) (cases_lt x.number y.number)
  where
    at : inserted x (inserted y zs) ≡ inserted y (inserted x zs)
        → (x.number < z.number) ⊎ (z.number ≤ x.number) → (y.number < z.number) ⊎ (z.number ≤ y.number) → (x.number < y.number) ⊎ (y.number ≤ x.number)
        → inserted x (inserted y (z ∷ zs)) ≡ inserted y (inserted x (z ∷ zs))
    at rest (inl a) (inl b) (inl c) =
        ap (inserted x) (first y z zs b) ∙ first x y (z ∷ zs) c
        ∙ sym (ap (inserted y) (first x z zs a) ∙ later y x (z ∷ zs) (omega arith) ∙ ap (λ k. x ∷ k) (first y z zs b))
    at rest (inl a) (inl b) (inr c) =
        ap (inserted x) (first y z zs b) ∙ later x y (z ∷ zs) c ∙ ap (λ k. y ∷ k) (first x z zs a)
        ∙ sym (ap (inserted y) (first x z zs a) ∙ first y x (z ∷ zs) (omega arith))
    at rest (inl a) (inr b) c =
        ap (inserted x) (later y z zs b) ∙ first x z (inserted y zs) a
        ∙ sym (ap (inserted y) (first x z zs a) ∙ later y x (z ∷ zs) (omega arith) ∙ ap (λ k. x ∷ k) (later y z zs b))
    at rest (inr a) (inl b) c =
        ap (inserted x) (first y z zs b) ∙ later x y (z ∷ zs) (omega arith) ∙ ap (λ k. y ∷ k) (later x z zs a)
        ∙ sym (ap (inserted y) (later x z zs a) ∙ first y z (inserted x zs) b)
    at rest (inr a) (inr b) c =
        ap (inserted x) (later y z zs b) ∙ later x z (inserted y zs) a ∙ ap (λ k. z ∷ k) rest
        ∙ sym (ap (inserted y) (later x z zs a) ∙ later y z (inserted x zs) b)

some_inserted : (p : Numbered → Bool) (x : Numbered) (ys : List Numbered) → some p (inserted x ys) ≡ (p x || some p ys)
some_inserted p x [] = refl
some_inserted p x (y ∷ ys) = at (some_inserted p x ys) (cases_lt x.number y.number)
  where
    at : some p (inserted x ys) ≡ (p x || some p ys) → (x.number < y.number) ⊎ (y.number ≤ x.number) → some p (inserted x (y ∷ ys)) ≡ (p x || some p (y ∷ ys))
    at rest (inl l) = ap (some p) (first x y ys l)
    at rest (inr l) = ap (some p) (later x y ys l) ∙ ap (λ b. p y || b) rest ∙ or_swap (p y) (p x) (some p ys)

pub length_inserted : (x : Numbered) (ys : List Numbered) → length (inserted x ys) ≡ suc (length ys)
length_inserted x [] = refl
length_inserted x (y ∷ ys) = at (length_inserted x ys) (cases_lt x.number y.number)
  where
    at : length (inserted x ys) ≡ suc (length ys) → (x.number < y.number) ⊎ (y.number ≤ x.number) → length (inserted x (y ∷ ys)) ≡ suc (length (y ∷ ys))
    at rest (inl l) = ap length (first x y ys l)
    at rest (inr l) = ap length (later x y ys l) ∙ ap suc rest

pub in_inserted : (a x : Numbered) (ys : List Numbered) → In a (inserted x ys) → (a ≡ x) ⊎ In a ys
in_inserted a x [] h = h
in_inserted a x (y ∷ ys) h = at (in_inserted a x ys) (cases_lt x.number y.number) h
  where
    at : (In a (inserted x ys) → (a ≡ x) ⊎ In a ys) → (x.number < y.number) ⊎ (y.number ≤ x.number) → In a (inserted x (y ∷ ys)) → (a ≡ x) ⊎ In a (y ∷ ys)
    at rest (inl l) i = subst (In a) (first x y ys l) i
    at rest (inr l) i = elim (subst (In a) (later x y ys l) i) [ inl e ↦ inr (inl e) | inr j ↦ elim (rest j) [ inl e ↦ inl e | inr k ↦ inr (inr k) ] ]

pub inserted_in : (a x : Numbered) (ys : List Numbered) → (a ≡ x) ⊎ In a ys → In a (inserted x ys)
inserted_in a x [] h = h
inserted_in a x (y ∷ ys) h = at (inserted_in a x ys) (cases_lt x.number y.number) h
  where
    at : ((a ≡ x) ⊎ In a ys → In a (inserted x ys)) → (x.number < y.number) ⊎ (y.number ≤ x.number) → (a ≡ x) ⊎ In a (y ∷ ys) → In a (inserted x (y ∷ ys))
    at rest (inl l) i = subst (In a) (sym (first x y ys l)) i
    at rest (inr l) i = subst (In a) (sym (later x y ys l)) (elim i [ inl e ↦ inr (rest (inl e)) | inr j ↦ elim j [ inl e ↦ inl e | inr k ↦ inr (rest (inr k)) ] ])

-- ---- what is held under a number

pub under_none : (n : ℕ) (rs : List Numbered) → some (has_number? n) rs ≡ false → under rs n ≡ Err (NotHeld n)
under_none n [] e = refl
under_none n (x ∷ xs) e = let p = neither (has_number? n x) (some (has_number? n) xs) e in rw (p.0) (under_none n xs p.1)

pub under_other : (n : ℕ) (x : Numbered) (ys : List Numbered) → has_number? n x ≡ false → under (inserted x ys) n ≡ under ys n
under_other n x [] e = rw e
under_other n x (y ∷ ys) e = at (under_other n x ys e) (cases_lt x.number y.number)
  where
    at : under (inserted x ys) n ≡ under ys n → (x.number < y.number) ⊎ (y.number ≤ x.number) → under (inserted x (y ∷ ys)) n ≡ under (y ∷ ys) n
    at rest (inl l) = ap (λ rs. under rs n) (first x y ys l) ∙ rw e
    at rest (inr l) = ap (λ rs. under rs n) (later x y ys l) ∙ ap (cond (has_number? n y) (Ok y.rule)) rest

pub under_same : (n : ℕ) (x : Numbered) (ys : List Numbered) → has_number? n x ≡ true → some (has_number? n) ys ≡ false → under (inserted x ys) n ≡ Ok x.rule
under_same n x [] e none = rw e
under_same n x (y ∷ ys) e none = let p = neither (has_number? n y) (some (has_number? n) ys) none in at p.0 (under_same n x ys e p.1) (cases_lt x.number y.number)
  where
    at : has_number? n y ≡ false → under (inserted x ys) n ≡ Ok x.rule → (x.number < y.number) ⊎ (y.number ≤ x.number) → under (inserted x (y ∷ ys)) n ≡ Ok x.rule
    at out rest (inl l) = ap (λ rs. under rs n) (first x y ys l) ∙ rw e
    at out rest (inr l) = ap (λ rs. under rs n) (later x y ys l) ∙ rw out rest

pub under_in : (n : ℕ) (rs : List Numbered) (A : Implication) → under rs n ≡ Ok A → (a : Numbered) × In a rs × (a.number ≡ n) × (a.rule ≡ A)
under_in n [] A e = absurd (let z : ◌≡◌ {A = Result Implication ShelfFault} (Err (NotHeld n)) (Ok A) = e in cc)
under_in n (x ∷ xs) A e = at (has_number? n x) refl e (under_in n xs A)
  where
    at : (b : Bool) → has_number? n x ≡ b → cond b (Ok x.rule) (under xs n) ≡ Ok A → (under xs n ≡ Ok A → (a : Numbered) × In a xs × (a.number ≡ n) × (a.rule ≡ A))
        → (a : Numbered) × In a (x ∷ xs) × (a.number ≡ n) × (a.rule ≡ A)
    at true h q rest = (x, inl refl, eqb-true x.number n h, (let z : ◌≡◌ {A = Result Implication ShelfFault} (Ok x.rule) (Ok A) = q in cc))
    at false h q rest = let r = rest q in (r.0, inr r.1, r.2, r.3)

-- ---- slots

-- where no slot has the number, no rule has it
pub none_sorted : (n : ℕ) (slots : List (Option NumberedRule)) → ((i : ℕ) → slot_has? n (slot slots i) ≡ false) → some (has_number? n) (sorted slots) ≡ false
none_sorted n [] f = refl
none_sorted n (None ∷ s) f = none_sorted n s (λ i. f (suc i))
none_sorted n (Some x ∷ s) f = some_inserted (has_number? n) (numbered x) (sorted s) ∙ rw (f 0) (none_sorted n s (λ i. f (suc i)))

or_true : (a b : Bool) → b ≡ true → (a || b) ≡ true
or_true true b e = refl
or_true false b e = e

pub some_sorted : (n : ℕ) (slots : List (Option NumberedRule)) (i : ℕ) → slot_has? n (slot slots i) ≡ true → some (has_number? n) (sorted slots) ≡ true
some_sorted n [] i e = absurd (false≢true e)
some_sorted n (None ∷ s) zero e = absurd (false≢true e)
some_sorted n (None ∷ s) (suc i) e = some_sorted n s i e
some_sorted n (Some x ∷ s) zero e = some_inserted (has_number? n) (numbered x) (sorted s) ∙ ap (λ b. b || some (has_number? n) (sorted s)) e
some_sorted n (Some x ∷ s) (suc i) e = some_inserted (has_number? n) (numbered x) (sorted s) ∙ or_true (has_number? n (numbered x)) _ (some_sorted n s i e)

-- the number stands in one slot at most
abbrev pub Once : ℕ → List (Option NumberedRule) → Type 0
Once n slots = (i j : ℕ) → slot_has? n (slot slots i) ≡ true → slot_has? n (slot slots j) ≡ true → i ≡ j

once_rest : (n : ℕ) (o : Option NumberedRule) (s : List (Option NumberedRule)) → Once n (o ∷ s) → Once n s
once_rest n o s one i j p q = let e = one (suc i) (suc j) p q in omega (arith, e)

-- where the first slot has it, no other has
only_first : (n : ℕ) (x : NumberedRule) (s : List (Option NumberedRule)) → Once n (Some x ∷ s) → has_number? n (numbered x) ≡ true → (i : ℕ) → slot_has? n (slot s i) ≡ false
only_first n x s one h i = at (slot_has? n (slot s i)) refl
  where
    at : (b : Bool) → slot_has? n (slot s i) ≡ b → slot_has? n (slot s i) ≡ false
    at true e = let z = one 0 (suc i) h e in absurd (omega (arith, z))
    at false e = e

not_first : (n : ℕ) (x : NumberedRule) (s : List (Option NumberedRule)) (i : ℕ) → Once n (Some x ∷ s) → slot_has? n (slot s i) ≡ true → has_number? n (numbered x) ≡ false
not_first n x s i one e = at (has_number? n (numbered x)) refl
  where
    at : (b : Bool) → has_number? n (numbered x) ≡ b → has_number? n (numbered x) ≡ false
    at true h = let z = one 0 (suc i) h e in absurd (omega (arith, z))
    at false h = h

-- what a slot holds is held under its number
pub under_slot : (n : ℕ) (slots : List (Option NumberedRule)) (i : ℕ) (x : NumberedRule) → Once n slots → slot slots i ≡ Some x → x.number ≡ n → under (sorted slots) n ≡ Ok (meaning x.rule)
under_slot n [] i x one e h = absurd (let z : ◌≡◌ {A = Option NumberedRule} None (Some x) = e in cc)
under_slot n (None ∷ s) zero x one e h = absurd (let z : ◌≡◌ {A = Option NumberedRule} None (Some x) = e in cc)
under_slot n (None ∷ s) (suc i) x one e h = under_slot n s i x (once_rest n None s one) e h
under_slot n (Some y ∷ s) zero x one e h =
    let z : ◌≡◌ {A = Option NumberedRule} (Some y) (Some x) = e in
    let q : y ≡ x = cc in
    let has : has_number? n (numbered y) ≡ true = eq-eqb y.number n (ap (λ r. r.number) q ∙ h) in
    under_same n (numbered y) (sorted s) has (none_sorted n s (only_first n y s one has)) ∙ ap (λ r. Ok (meaning r.rule)) q
under_slot n (Some y ∷ s) (suc i) x one e h =
    let has : slot_has? n (slot s i) ≡ true = subst (λ o. slot_has? n o ≡ true) (sym e) (eq-eqb x.number n h) in
    under_other n (numbered y) (sorted s) (not_first n y s i one has) ∙ under_slot n s i x (once_rest n (Some y) s one) e h

-- what is held stands in a slot, and the other way round
pub sorted_slot : (a : Numbered) (slots : List (Option NumberedRule)) → In a (sorted slots) → (i : ℕ) × (x : NumberedRule) × (slot slots i ≡ Some x) × (numbered x ≡ a)
sorted_slot a [] h = absurd h
sorted_slot a (None ∷ s) h = let r = sorted_slot a s h in (suc r.0, r.1, r.2, r.3)
sorted_slot a (Some x ∷ s) h = at (sorted_slot a s) (in_inserted a (numbered x) (sorted s) h)
  where
    at : (In a (sorted s) → (i : ℕ) × (y : NumberedRule) × (slot s i ≡ Some y) × (numbered y ≡ a)) → (a ≡ numbered x) ⊎ In a (sorted s)
        → (i : ℕ) × (y : NumberedRule) × (slot (Some x ∷ s) i ≡ Some y) × (numbered y ≡ a)
    at rest (inl e) = (0, x, refl, sym e)
    at rest (inr i) = let r = rest i in (suc r.0, r.1, r.2, r.3)

pub slot_sorted : (slots : List (Option NumberedRule)) (i : ℕ) (x : NumberedRule) → slot slots i ≡ Some x → In (numbered x) (sorted slots)
slot_sorted [] i x e = absurd (let z : ◌≡◌ {A = Option NumberedRule} None (Some x) = e in cc)
slot_sorted (None ∷ s) zero x e = absurd (let z : ◌≡◌ {A = Option NumberedRule} None (Some x) = e in cc)
slot_sorted (None ∷ s) (suc i) x e = slot_sorted s i x e
slot_sorted (Some y ∷ s) zero x e =
    let z : ◌≡◌ {A = Option NumberedRule} (Some y) (Some x) = e in
    let q : x ≡ y = cc in
    inserted_in (numbered x) (numbered y) (sorted s) (inl (ap numbered q))
slot_sorted (Some y ∷ s) (suc i) x e = inserted_in (numbered x) (numbered y) (sorted s) (inr (slot_sorted s i x e))

pub slot_under : (n : ℕ) (slots : List (Option NumberedRule)) (A : Implication) → under (sorted slots) n ≡ Ok A
    → (i : ℕ) × (x : NumberedRule) × (slot slots i ≡ Some x) × (x.number ≡ n) × (meaning x.rule ≡ A)
slot_under n slots A e =
    let r = under_in n (sorted slots) A e in
    let w = sorted_slot r.0 slots r.1 in
    (w.0, w.1, w.2, ap (λ a. a.number) w.3 ∙ r.2, ap (λ a. a.rule) w.3 ∙ r.3)

-- ---- how many are held

pub few_sorted : (slots : List (Option NumberedRule)) → length (sorted slots) ≤ length slots
few_sorted [] = omega arith
few_sorted (None ∷ s) = let r = few_sorted s in omega (arith, r)
few_sorted (Some x ∷ s) = let r = few_sorted s in let e = length_inserted (numbered x) (sorted s) in omega (arith, r, e)

pub fewer_sorted : (slots : List (Option NumberedRule)) (i : ℕ) → i < length slots → slot slots i ≡ None → length (sorted slots) < length slots
fewer_sorted [] i l e = absurd (omega (arith, l))
fewer_sorted (None ∷ s) i l e = let r = few_sorted s in omega (arith, r)
fewer_sorted (Some x ∷ s) zero l e = absurd (let z : ◌≡◌ {A = Option NumberedRule} (Some x) None = e in cc)
fewer_sorted (Some x ∷ s) (suc i) l e =
    let r = fewer_sorted s i (omega (arith, l)) e in
    let n = length_inserted (numbered x) (sorted s) in
    omega (arith, r, n)

pub all_sorted : (slots : List (Option NumberedRule)) → ((i : ℕ) → i < length slots → IsSome (slot slots i)) → length (sorted slots) ≡ length slots
all_sorted [] f = refl
all_sorted (None ∷ s) f = absurd (false≢true (f 0 (omega arith)))
all_sorted (Some x ∷ s) f = length_inserted (numbered x) (sorted s) ∙ ap suc (all_sorted s (λ i l. f (suc i) (omega (arith, l))))

-- ---- a slot changes

apart_numbers : (n : ℕ) (x y : NumberedRule) → x.number ≡ n → slot_has? n (Some y) ≡ false → (numbered y).number ≢ (numbered x).number
apart_numbers n x y e f q = false≢true (sym f ∙ eq-eqb y.number n (q ∙ e))

-- a rule is put into a free slot
pub sorted_put : (slots : List (Option NumberedRule)) (i : ℕ) (x : NumberedRule) → i < length slots → slot slots i ≡ None → ((j : ℕ) → slot_has? x.number (slot slots j) ≡ false)
    → sorted (set slots i (Some x)) ≡ inserted (numbered x) (sorted slots)
sorted_put [] i x l e none = absurd (omega (arith, l))
sorted_put (None ∷ s) zero x l e none = refl
sorted_put (Some y ∷ s) zero x l e none = absurd (let z : ◌≡◌ {A = Option NumberedRule} (Some y) None = e in cc)
sorted_put (None ∷ s) (suc i) x l e none = sorted_put s i x (omega (arith, l)) e (λ j. none (suc j))
sorted_put (Some y ∷ s) (suc i) x l e none =
    ap (inserted (numbered y)) (sorted_put s i x (omega (arith, l)) e (λ j. none (suc j)))
    ∙ inserted_apart (numbered y) (numbered x) (sorted s) (apart_numbers x.number x y refl (none 0))

-- each number is n at least
abbrev From : ℕ → List Numbered → Type 0
From n [] = Unit {0}
From n (y ∷ ys) = (n ≤ y.number) × From n ys

-- no number is less than one before it
abbrev Rising : List Numbered → Type 0
Rising [] = Unit {0}
Rising (y ∷ ys) = From y.number ys × Rising ys

from_less : (m n : ℕ) (ys : List Numbered) → m ≤ n → From n ys → From m ys
from_less m n [] l f = tt
from_less m n (y ∷ ys) l f = let z = f.0 in (omega (arith, l, z), from_less m n ys l f.1)

from_inserted : (n : ℕ) (x : Numbered) (ys : List Numbered) → n ≤ x.number → From n ys → From n (inserted x ys)
from_inserted n x [] l f = (l, tt)
from_inserted n x (y ∷ ys) l f = at (from_inserted n x ys l f.1) (cases_lt x.number y.number)
  where
    at : From n (inserted x ys) → (x.number < y.number) ⊎ (y.number ≤ x.number) → From n (inserted x (y ∷ ys))
    at rest (inl c) = subst (From n) (sym (first x y ys c)) (l, f)
    at rest (inr c) = subst (From n) (sym (later x y ys c)) (f.0, rest)

rising_inserted : (x : Numbered) (ys : List Numbered) → Rising ys → Rising (inserted x ys)
rising_inserted x [] r = (tt, tt)
rising_inserted x (y ∷ ys) r = at (rising_inserted x ys r.1) (cases_lt x.number y.number)
  where
    at : Rising (inserted x ys) → (x.number < y.number) ⊎ (y.number ≤ x.number) → Rising (inserted x (y ∷ ys))
    at rest (inl c) = subst Rising (sym (first x y ys c)) (((omega (arith, c)), from_less x.number y.number ys (omega (arith, c)) r.0), r)
    at rest (inr c) = subst Rising (sym (later x y ys c)) (from_inserted y.number x ys c r.0, rest)

rising_sorted : (slots : List (Option NumberedRule)) → Rising (sorted slots)
rising_sorted [] = tt
rising_sorted (None ∷ s) = rising_sorted s
rising_sorted (Some x ∷ s) = rising_inserted (numbered x) (sorted s) (rising_sorted s)

-- x comes first where all others come after it
comes_first : (x : Numbered) (ys : List Numbered) → From (suc x.number) ys → inserted x ys ≡ x ∷ ys
comes_first x [] f = refl
comes_first x (y ∷ ys) f = first x y ys f.0

module _ (p : Numbered → Bool) where
  from_filter : (n : ℕ) (ys : List Numbered) → From n ys → From n (filter p ys)
  from_filter n [] f = tt
  from_filter n (y ∷ ys) f = at (p y) (from_filter n ys f.1)
    where
      at : (b : Bool) → From n (filter p ys) → From n (cond b (y ∷ filter p ys) (filter p ys))
      at true rest = (f.0, rest)
      at false rest = rest

  filter_dropped : (x : Numbered) (ys : List Numbered) → p x ≡ false → filter p (inserted x ys) ≡ filter p ys
  filter_dropped x [] e = rw e
  filter_dropped x (y ∷ ys) e = at (filter_dropped x ys e) (cases_lt x.number y.number)
    where
      at : filter p (inserted x ys) ≡ filter p ys → (x.number < y.number) ⊎ (y.number ≤ x.number) → filter p (inserted x (y ∷ ys)) ≡ filter p (y ∷ ys)
      at rest (inl c) = ap (filter p) (first x y ys c) ∙ rw e
      at rest (inr c) = ap (filter p) (later x y ys c) ∙ ap (λ zs. cond (p y) (y ∷ zs) zs) rest

  filter_kept : (x : Numbered) (ys : List Numbered) → p x ≡ true → Rising ys → filter p (inserted x ys) ≡ inserted x (filter p ys)
  filter_kept x [] e r = rw e
  filter_kept x (y ∷ ys) e r = at (filter_kept x ys e r.1) (cases_lt x.number y.number)
    where
      late : y.number ≤ x.number → (b : Bool) → cond b (y ∷ inserted x (filter p ys)) (inserted x (filter p ys)) ≡ inserted x (cond b (y ∷ filter p ys) (filter p ys))
      late c true = sym (later x y (filter p ys) c)
      late c false = refl

      at : filter p (inserted x ys) ≡ inserted x (filter p ys) → (x.number < y.number) ⊎ (y.number ≤ x.number) → filter p (inserted x (y ∷ ys)) ≡ inserted x (filter p (y ∷ ys))
      at rest (inl c) =
          ap (filter p) (first x y ys c) ∙ ap (λ b. cond b (x ∷ filter p (y ∷ ys)) (filter p (y ∷ ys))) e
          ∙ sym (comes_first x (filter p (y ∷ ys)) (from_filter (suc x.number) (y ∷ ys) (c, from_less (suc x.number) y.number ys c r.0)))
      at rest (inr c) = ap (filter p) (later x y ys c) ∙ ap (λ zs. cond (p y) (y ∷ zs) zs) rest ∙ late c (p y)

-- where no rule has the number, all are left
pub without_none : (n : ℕ) (rs : List Numbered) → some (has_number? n) rs ≡ false → without rs n ≡ rs
without_none n [] e = refl
without_none n (x ∷ xs) e = let p = neither (has_number? n x) (some (has_number? n) xs) e in rw p.0 (ap (λ ys. x ∷ ys) (without_none n xs p.1))

-- a slot is emptied
pub sorted_taken : (n : ℕ) (slots : List (Option NumberedRule)) (i : ℕ) → Once n slots → slot_has? n (slot slots i) ≡ true → sorted (set slots i None) ≡ without (sorted slots) n
sorted_taken n [] i one e = absurd (false≢true e)
sorted_taken n (None ∷ s) zero one e = absurd (false≢true e)
sorted_taken n (None ∷ s) (suc i) one e = sorted_taken n s i (once_rest n None s one) e
sorted_taken n (Some y ∷ s) zero one e =
    sym (filter_dropped (λ x. not (has_number? n x)) (numbered y) (sorted s) (ap not e) ∙ without_none n (sorted s) (none_sorted n s (only_first n y s one e)))
sorted_taken n (Some y ∷ s) (suc i) one e =
    ap (inserted (numbered y)) (sorted_taken n s i (once_rest n (Some y) s one) e)
    ∙ sym (filter_kept (λ x. not (has_number? n x)) (numbered y) (sorted s) (ap not (not_first n y s i one e)) (rising_sorted s))

-- no number stands in two slots
abbrev pub Apart : List (Option NumberedRule) → Type 0
Apart slots = (n : ℕ) → Once n slots

module _ (slots : List (Option NumberedRule)) (k : ℕ) (within : k < length slots) (apart : Apart slots) where
  has_other : (o : Option NumberedRule) (n i : ℕ) → i ≢ k → slot_has? n (slot (set slots k o) i) ≡ true → slot_has? n (slot slots i) ≡ true
  has_other o n i ne e = subst (λ z. slot_has? n z ≡ true) (get_or-set_other slots k i o None ne) e

  has_same : (o : Option NumberedRule) (n i : ℕ) → i ≡ k → slot_has? n (slot (set slots k o) i) ≡ true → slot_has? n o ≡ true
  has_same o n i q e = subst (λ z. slot_has? n z ≡ true) (ap (slot (set slots k o)) q ∙ get_or-set_same slots k o None within) e

  pub put_apart : (x : NumberedRule) → ((j : ℕ) → slot_has? x.number (slot slots j) ≡ false) → Apart (set slots k (Some x))
  put_apart x none n i j p q = at (cases_eq i k) (cases_eq j k)
    where
      clash : (i j : ℕ) → i ≡ k → j ≢ k → slot_has? n (slot (set slots k (Some x)) i) ≡ true → slot_has? n (slot (set slots k (Some x)) j) ≡ true → ⊥
      clash i j a b p q =
          let e = eqb-true x.number n (has_same (Some x) n i a p) in
          false≢true (sym (none j) ∙ subst (λ m. slot_has? m (slot slots j) ≡ true) (sym e) (has_other (Some x) n j b q))

      at : (i ≡ k) ⊎ (i ≢ k) → (j ≡ k) ⊎ (j ≢ k) → i ≡ j
      at (inl a) (inl b) = a ∙ sym b
      at (inl a) (inr b) = absurd (clash i j a b p q)
      at (inr a) (inl b) = absurd (clash j i b a q p)
      at (inr a) (inr b) = apart n i j (has_other (Some x) n i a p) (has_other (Some x) n j b q)

  pub taken_apart : Apart (set slots k None)
  taken_apart n i j p q = at (cases_eq i k) (cases_eq j k)
    where
      at : (i ≡ k) ⊎ (i ≢ k) → (j ≡ k) ⊎ (j ≢ k) → i ≡ j
      at (inl a) b = absurd (false≢true (has_same None n i a p))
      at (inr a) (inl b) = absurd (false≢true (has_same None n j b q))
      at (inr a) (inr b) = apart n i j (has_other None n i a p) (has_other None n j b q)

-- what holds below k and at k
pub one_more : (P : ℕ → Type 0) (k : ℕ) → ((i : ℕ) → i < k → P i) → P k → (i : ℕ) → i < k + 1 → P i
one_more P k below here i l = ⊎_elim (λ (a : i < k). below i a) (λ (a : k ≤ i). let e : i ≡ k = omega (arith, l, a) in subst P (sym e) here) (cases_lt i k)

pub held_none : (n : ℕ) (slots : List (Option NumberedRule)) → ((i : ℕ) → slot_has? n (slot slots i) ≡ false) → under (sorted slots) n ≡ Err (NotHeld n)
held_none n slots none = under_none n (sorted slots) (none_sorted n slots none)

-- ---- no rules at all

blank : (k i : ℕ) → slot (replicate k None) i ≡ None
blank zero i = refl
blank (suc k) zero = refl
blank (suc k) (suc i) = blank k i

pub blank_apart : (k : ℕ) → Apart (replicate k None)
blank_apart k n i j p q = absurd (false≢true (subst (λ o. slot_has? n o ≡ true) (blank k i) p))

-- ---- what the calls answer

pub none_left : (n : ℕ) (slots : List (Option NumberedRule)) → ((i : ℕ) → slot_has? n (slot slots i) ≡ false) → sorted slots ≡ without (sorted slots) n
none_left n slots none = sym (without_none n (sorted slots) (none_sorted n slots none))

pub held_some : (n : ℕ) (slots : List (Option NumberedRule)) (i : ℕ) → Once n slots → slot_has? n (slot slots i) ≡ true → Ok tt ≡ done (under (sorted slots) n)
held_some n slots i one e = at (slot slots i) refl e
  where
    at : (o : Option NumberedRule) → slot slots i ≡ o → slot_has? n o ≡ true → Ok tt ≡ done (under (sorted slots) n)
    at None q h = absurd (false≢true h)
    at (Some x) q h = ap done (sym (under_slot n slots i x one q (eqb-true x.number n h)))
