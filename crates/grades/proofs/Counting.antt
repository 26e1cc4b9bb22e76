-- How many pairs a relation has, row by row.
use Rattle.std.proofs.Common.{◌≡◌, ℕ, zero, suc, ◌+◌, ◌%◌, ◌^◌, ◌<◌, ◌≤◌, ◌⊎◌, inl, inr, List, [], ◌∷◌, ◌++◌, get_or, ◌∙◌, sym, ap, refl, arith, length-append}
use Rattle.std.proofs.lemmas.Bool.{cases_eq}
use Rattle.std.proofs.lemmas.Nat.{pow_pos, mod-pow-add, ones_cat}
use Rattle.std.proofs.lemmas.Nat.Bits.{bit_at-lt}
use Rattle.std.specs.Prelude.{◌↔◌}
use Rattle.std.specs.Int.{bit_at}
use Rattle.std.specs.Int.Count.{ones, ones_in}
use Rattle.grades.specs.declared.pairs.Pairs.{Pairs}
use Rattle.grades.specs.Pairs.{Related, In, Distinct, Count, PairCount}
use Rattle.grades.specs.Sets.{size}

-- ---- counting things

module _ {A : Type 0} where
  in_left : (x : A) (xs ys : List A) → In x xs → In x (xs ++ ys)
  in_left x [] ys h = absurd h
  in_left x (y ∷ xs) ys h = elim h [ inl same ↦ inl same | inr rest ↦ inr (in_left x xs ys rest) ]

  in_right : (x : A) (xs ys : List A) → In x ys → In x (xs ++ ys)
  in_right x [] ys h = h
  in_right x (y ∷ xs) ys h = inr (in_right x xs ys h)

  in_parts : (x : A) (xs ys : List A) → In x (xs ++ ys) → In x xs ⊎ In x ys
  in_parts x [] ys h = inr h
  in_parts x (y ∷ xs) ys h = elim h [
    | inl same ↦ inl (inl same)
    | inr rest ↦ elim (in_parts x xs ys rest) [ inl left ↦ inl (inr left) | inr right ↦ inr right ]
  ]

  once_both : (xs ys : List A) → Distinct xs → Distinct ys → ((x : A) → In x xs → In x ys → ⊥) → Distinct (xs ++ ys)
  once_both [] ys once other apart = other
  once_both (x ∷ xs) ys once other apart = (
    λ h. elim (in_parts x xs ys h) [ inl left ↦ once.0 left | inr right ↦ apart x (inl refl) right ],
    once_both xs ys once.1 other (λ y left right. apart y (inr left) right),
  )

  count_none : (P : A → Type 0) → ((x : A) → P x → ⊥) → Count P 0
  count_none P none = ([], record { each = λ x h. absurd h; all = λ x h. none x h; once = tt }, refl)

  count_one : (x : A) → Count (λ y. y ≡ x) 1
  count_one x = (
    x ∷ [],
    record {
      each = λ y h. elim h [ inl same ↦ same | inr rest ↦ absurd rest ];
      all = λ y same. inl same;
      once = (λ h. h, tt);
    },
    refl,
  )

  -- what P or Q holds of, where they never hold both
  count_both : (P Q R : A → Type 0) (m n : ℕ) → Count P m → Count Q n → ((x : A) → P x → Q x → ⊥) → ((x : A) → R x ↔ (P x ⊎ Q x)) → Count R (m + n)
  count_both P Q R m n left right apart same = (
    left.0 ++ right.0,
    record {
      each = λ x h. (same x).1 (elim (in_parts x left.0 right.0 h) [ inl one ↦ inl (left.1.each x one) | inr one ↦ inr (right.1.each x one) ]);
      all = λ x h. elim ((same x).0 h) [
        | inl one ↦ in_left x left.0 right.0 (left.1.all x one)
        | inr one ↦ in_right x left.0 right.0 (right.1.all x one)
      ];
      once = once_both left.0 right.0 left.1.once right.1.once (λ x one other. apart x (left.1.each x one) (right.1.each x other));
    },
    omega (arith, length-append left.0 right.0, left.2, right.2),
  )

  count_same : (P Q : A → Type 0) (m n : ℕ) → m ≡ n → ((x : A) → Q x ↔ P x) → Count P m → Count Q n
  count_same P Q m n equal same h =
      (h.0, record { each = λ x one. (same x).1 (h.1.each x one); all = λ x one. h.1.all x ((same x).0 one); once = h.1.once }, h.2 ∙ equal)

-- ---- the ones of a row

ones_of_bit : (b : ℕ) → b < 2 → ones b ≡ b
unfolding ones ones_in
ones_of_bit zero h = refl
ones_of_bit (suc zero) h = refl
ones_of_bit (suc (suc b)) h = absurd (omega arith)

ones_below : (k x : ℕ) → ones (x % 2 ^ k) ≡ size k x
unfolding size
ones_below zero x = let none : x % 1 ≡ 0 = omega arith in ap ones none ∙ ones_of_bit 0 (omega arith)
ones_below (suc k) x =
    let one : suc k ≡ 1 + k = omega arith in
    ap (λ m. ones (x % 2 ^ m)) one ∙ ap ones (mod-pow-add x 1 k) ∙ ones_cat k (bit_at x k) (x % 2 ^ k) (omega (arith, pow_pos k))
    ∙ ap (λ m. m + ones (x % 2 ^ k)) (ones_of_bit (bit_at x k) (bit_at-lt x k)) ∙ ap (λ m. bit_at x k + m) (ones_below k x)

ones_are : (x : ℕ) → x < 2 ^ 64 → ones x ≡ size 64 x
ones_are x fits = let all : x ≡ x % 2 ^ 64 = omega arith in ap ones all ∙ ones_below 64 x

-- ---- pairs

-- the pairs of row i that are below k
abbrev InRow : ℕ → ℕ → ℕ → ℕ × ℕ → Type 0
InRow i x k p = (p.0 ≡ i) × (p.1 < k) × (bit_at x p.1 ≡ 1)

row_count : (i x k : ℕ) → Count (InRow i x k) (size k x)
unfolding size
row_count i x zero = count_none (InRow i x zero) (λ p h. let low = h.1 in absurd (omega arith))
row_count i x (suc k) = elim (cases_eq (bit_at x k) 1) [
  | inl one ↦ rw one (count_both (λ p. p ≡ (i, k)) (InRow i x k) (InRow i x (suc k)) 1 (size k x) (count_one (i, k)) (row_count i x k)
      (λ p new old. let same : p.1 ≡ k = ap (λ (q : ℕ × ℕ). q.1) new in let low = old.1 in absurd (omega arith))
      (λ p. (more p, back one p)))
  | inr none ↦
      let clear : bit_at x k ≡ 0 = omega (arith, bit_at-lt x k) in
      count_same (InRow i x k) (InRow i x (suc k)) (size k x) (bit_at x k + size k x) (omega arith)
      (λ p. (fewer none p, λ h. let low = h.1 in (h.0, omega arith, h.2))) (row_count i x k)
]
  where
    more : (p : ℕ × ℕ) → InRow i x (suc k) p → (p ≡ (i, k)) ⊎ InRow i x k p
    more p h = elim (cases_eq p.1 k) [
      | inl same ↦ inl (λ t. (h.0 t, same t))
      | inr other ↦ let low = h.1 in inr (h.0, omega arith, h.2)
    ]

    back : bit_at x k ≡ 1 → (p : ℕ × ℕ) → (p ≡ (i, k)) ⊎ InRow i x k p → InRow i x (suc k) p
    back one p h = elim h [
      | inl new ↦
          let same : p.1 ≡ k = ap (λ (q : ℕ × ℕ). q.1) new in
          (ap (λ (q : ℕ × ℕ). q.0) new, omega arith, ap (bit_at x) same ∙ one)
      | inr old ↦ let low = old.1 in (old.0, omega arith, old.2)
    ]

    fewer : (bit_at x k ≡ 1 → ⊥) → (p : ℕ × ℕ) → InRow i x (suc k) p → InRow i x k p
    fewer none p h = elim (more p h) [
      | inl new ↦ let same : k ≡ p.1 = ap (λ (q : ℕ × ℕ). q.1) (sym new) in absurd (none (ap (bit_at x) same ∙ h.2))
      | inr old ↦ old
    ]

-- the pairs of the rows below i
abbrev pub BelowRow : Pairs → ℕ → ℕ → ℕ → Type 0
BelowRow r n i j = (i < n) × Related r i j

pub one_row_more : (r : Pairs) (i n : ℕ) → i < 64 → get_or r.rows i 0 < 2 ^ 64 → PairCount (BelowRow r i) n
    → PairCount (BelowRow r (i + 1)) (n + ones (get_or r.rows i 0))
one_row_more r i n low fits h =
    count_both (λ p. BelowRow r i p.0 p.1) (InRow i (get_or r.rows i 0) 64) (λ p. BelowRow r (i + 1) p.0 p.1) n (ones (get_or r.rows i 0))
    h (rw (ones_are (get_or r.rows i 0) fits) (row_count i (get_or r.rows i 0) 64))
    (λ p old new. let less = old.0 in let same = new.0 in absurd (omega arith))
    (λ p. (parts p, whole p))
  where
    parts : (p : ℕ × ℕ) → BelowRow r (i + 1) p.0 p.1 → BelowRow r i p.0 p.1 ⊎ InRow i (get_or r.rows i 0) 64 p
    parts p one = elim (cases_eq p.0 i) [
      | inl same ↦ inr (same, one.1.1, ap (λ k. bit_at (get_or r.rows k 0) p.1) (sym same) ∙ one.1.2)
      | inr other ↦ let less = one.0 in inl (omega arith, one.1)
    ]

    whole : (p : ℕ × ℕ) → BelowRow r i p.0 p.1 ⊎ InRow i (get_or r.rows i 0) 64 p → BelowRow r (i + 1) p.0 p.1
    whole p one = elim one [
      | inl old ↦ let less = old.0 in (omega arith, old.1)
      | inr new ↦ let same = new.0 in (omega arith, (omega arith, new.1, ap (λ k. bit_at (get_or r.rows k 0) p.1) same ∙ new.2))
    ]

pub all_rows : (r : Pairs) (i n : ℕ) → 64 ≤ i → PairCount (BelowRow r i) n → PairCount (Related r) n
all_rows r i n all = count_same _ _ n n refl (λ p. (λ h. let low = h.0 in (omega arith, h), λ h. h.1))
