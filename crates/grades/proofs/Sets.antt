-- Sets of slots by their bits.
use Rattle.std.proofs.Common.{◌≡◌, ℕ, zero, suc, ◌*◌, ◌%◌, ◌^◌, ◌<◌, ◌≤◌, ◌⊎◌, inl, inr, ◌∙◌, sym, ap, refl, arith, w64, eqb, eqb-true, Bool, true, false, get_or, replicate}
use Rattle.std.proofs.lemmas.Bool.{cases_eq, cases_lt, eqb-false}
use Rattle.std.proofs.lemmas.List.{get_or-replicate, get_or_past, length-replicate}
use Rattle.std.proofs.lemmas.Nat.{and_le_l}
use Rattle.std.proofs.lemmas.Nat.Bits.{bit_at-lt, bit_at-zero, bit_at_and, bit_at_or, bit_at_not, bit_at_set_same, bit_at_set_other, bit_at_clear_same, bit_at_clear_other, bit_at-trailing_zeros}
use Rattle.std.specs.Prelude.{◌↔◌, bit_and, bit_or}
use Rattle.std.specs.Int.{bit_at, bit_not, trailing_zeros}
use Rattle.grades.specs.declared.slots.Slots.{Slots}
use Rattle.grades.specs.Pairs.{HasSlot}
use Rattle.grades.specs.Sets.{TakenOut, Emptiness, size}

-- the set that the bits are
abbrev pub slots : ℕ → Slots
slots x = record { bits = x }

pub cases_has : (s : Slots) (i : ℕ) → HasSlot s i ⊎ (HasSlot s i → ⊥)
cases_has s i = elim (cases_lt i 64) [
  | inl low ↦ elim (cases_eq (bit_at s.bits i) 1) [
    | inl one ↦ inl (low, one)
    | inr other ↦ inr (λ h. other h.1)
  ]
  | inr high ↦ inr (λ h. let low = h.0 in absurd (omega arith))
]

pub has_none : (i : ℕ) → HasSlot (slots 0) i → ⊥
has_none i h = let one = h.1 in absurd (omega (arith, bit_at-zero i))

-- the lowest slot of a set that is not empty
pub has_lowest : (x : ℕ) → 0 < x → x < 2 ^ 64 → HasSlot (slots x) (trailing_zeros w64 x)
has_lowest x some fits = let h = bit_at-trailing_zeros w64 x some fits in (h.0, h.1)

pub emptiness : (x : ℕ) → x < 2 ^ 64 → Emptiness (slots x) (eqb x 0)
emptiness x fits = go (eqb x 0) refl
  where
    go : (b : Bool) → eqb x 0 ≡ b → Emptiness (slots x) b
    go true e = λ i h. has_none i (rw (eqb-true x 0 e) at h)
    go false e = (trailing_zeros w64 x, has_lowest x (omega (arith, eqb-false x 0 e)) fits)

pub has_within : (a b i : ℕ) → HasSlot (slots (bit_and a b)) i ↔ (HasSlot (slots a) i × HasSlot (slots b) i)
has_within a b i = (
  λ h. let one = h.1 in ((h.0, omega (arith, bit_at_and a b i, bit_at-lt a i)), (h.0, omega (arith, bit_at_and a b i, bit_at-lt b i))),
  λ h. let one = h.0.1 in let other = h.1.1 in (h.0.0, omega (arith, bit_at_and a b i)),
)

pub has_with : (a b i : ℕ) → HasSlot (slots (bit_or a b)) i ↔ (HasSlot (slots a) i ⊎ HasSlot (slots b) i)
has_with a b i = (
  λ h. elim (cases_eq (bit_at a i) 1) [
    | inl one ↦ inl (h.0, one)
    | inr other ↦ let one = h.1 in inr (h.0, omega (arith, bit_at_or a b i, bit_at-lt a i, bit_at-lt b i))
  ],
  λ h. elim h [
    | inl one ↦ let is = one.1 in (one.0, omega (arith, bit_at_or a b i, bit_at-lt b i))
    | inr one ↦ let is = one.1 in (one.0, omega (arith, bit_at_or a b i, bit_at-lt a i))
  ],
)

pub has_without : (a b i : ℕ) → b < 2 ^ 64 → HasSlot (slots (bit_and a (bit_not w64 b))) i ↔ (HasSlot (slots a) i × (HasSlot (slots b) i → ⊥))
has_without a b i fits = (
  λ h.
      let both = (has_within a (bit_not w64 b) i).0 h in
      (both.0, λ k. let one = k.1 in let rest = both.1.1 in absurd (omega (arith, bit_at_not w64 b i fits h.0))),
  λ h. (has_within a (bit_not w64 b) i).1
      (h.0, (h.0.0, omega (arith, bit_at_not w64 b i fits h.0.0, bit_at-lt b i, zero_bit h.0.0 h.1))),
)
  where
    zero_bit : i < 64 → (HasSlot (slots b) i → ⊥) → bit_at b i ≡ 0
    zero_bit low none = elim (cases_eq (bit_at b i) 1) [ inl one ↦ absurd (none (low, one)) | inr other ↦ omega (arith, bit_at-lt b i) ]

-- one slot more
pub has_put : (x k i : ℕ) → k < 64 → HasSlot (slots (bit_or x (1 * 2 ^ k % 2 ^ 64))) i ↔ (HasSlot (slots x) i ⊎ ((i ≡ k) × (k < 64)))
has_put x k i low = elim (cases_eq i k) [
  | inl same ↦ (λ h. inr (same, low), λ h. rw same (low, bit_at_set_same w64 x k low))
  | inr other ↦ (
    λ h. inl (h.0, sym (bit_at_set_other w64 x k low i other) ∙ h.1),
    λ h. elim h [ inl one ↦ (one.0, bit_at_set_other w64 x k low i other ∙ one.1) | inr new ↦ absurd (other new.0) ],
  )
]

-- one slot less
pub taken_out : (x k : ℕ) → HasSlot (slots x) k → TakenOut (slots x) (slots (bit_and x (bit_not w64 (1 * 2 ^ k % 2 ^ 64)))) k
taken_out x k there = record {
  there = there;
  kept = λ i h. elim (cases_eq i k) [ inl same ↦ rw same there | inr other ↦ (h.0, sym (bit_at_clear_other w64 x k there.0 i h.0 other) ∙ h.1) ];
  rest = λ i h. elim (cases_eq i k) [ inl same ↦ inl same | inr other ↦ inr (h.0, bit_at_clear_other w64 x k there.0 i h.0 other ∙ h.1) ];
  falls = elim (cases_eq left x) [
    | inl same ↦ absurd (let both : bit_at left k ≡ bit_at x k = ap (λ y. bit_at y k) same in let one = there.1 in omega (arith, bit_at_clear_same w64 x k there.0))
    | inr other ↦ omega (arith, and_le_l x (bit_not w64 (1 * 2 ^ k % 2 ^ 64)))
  ];
}
  where
    left : ℕ
    left = bit_and x (bit_not w64 (1 * 2 ^ k % 2 ^ 64))

-- ---- how many slots there are

pub size_le : (k x : ℕ) → size k x ≤ k
unfolding size
size_le zero x = omega arith
size_le (suc k) x = omega (arith, size_le k x, bit_at-lt x k)

-- the bits of x below k are in y too
abbrev In_bits : ℕ → ℕ → ℕ → Type 0
In_bits k x y = (i : ℕ) → i < k → bit_at x i ≡ 1 → bit_at y i ≡ 1

size_grows : (k x y : ℕ) → In_bits k x y → size k x ≤ size k y
unfolding size
size_grows zero x y h = omega arith
size_grows (suc k) x y h = elim (cases_eq (bit_at x k) 1) [
  | inl one ↦ omega (arith, h k (omega arith) one, size_grows k x y (λ i l. h i (omega arith)))
  | inr other ↦ omega (arith, bit_at-lt x k, size_grows k x y (λ i l. h i (omega arith)))
]

size_grows_at : (k x y j : ℕ) → In_bits k x y → j < k → bit_at y j ≡ 1 → (bit_at x j ≡ 1 → ⊥) → size k x < size k y
unfolding size
size_grows_at zero x y j h low one none = absurd (omega arith)
size_grows_at (suc k) x y j h low one none = elim (cases_eq j k) [
  | inl same ↦
      let top : bit_at y k ≡ 1 = ap (bit_at y) (sym same) ∙ one in
      let no_top : bit_at x k ≡ 1 → ⊥ = λ e. none (ap (bit_at x) same ∙ e) in
      omega (arith, bit_at-lt x k, size_grows k x y (λ i l. h i (omega arith)), top, no_top)
  | inr other ↦
      let rest = size_grows_at k x y j (λ i l. h i (omega arith)) (omega arith) one none in
      elim (cases_eq (bit_at x k) 1) [
        | inl set ↦ omega (arith, h k (omega arith) set, rest)
        | inr clear ↦ omega (arith, bit_at-lt x k, rest)
      ]
]

-- a set that has all slots of another, and one more, is larger
pub more_slots : (s t : Slots) (j : ℕ) → ((i : ℕ) → HasSlot s i → HasSlot t i) → HasSlot t j → (HasSlot s j → ⊥) → size 64 s.bits < size 64 t.bits
more_slots s t j h there gone = size_grows_at 64 s.bits t.bits j (λ i l one. (h i (l, one)).1) there.0 there.1 (λ one. gone (there.0, one))

-- ---- a list of zeros

zeros : (n i : ℕ) → get_or {A = ℕ} (replicate n 0) i 0 ≡ 0
zeros n i = elim (cases_lt i n) [
  | inl low ↦ get_or-replicate n i 0 0 low
  | inr past ↦ get_or_past (replicate n 0) i 0 (omega (arith, length-replicate {A = ℕ} n 0))
]

pub zero_at : (i : ℕ) → get_or {A = ℕ} (replicate 64 0) i 0 ≡ 0
zero_at = zeros 64

pub no_bit : (i j : ℕ) → bit_at (get_or {A = ℕ} (replicate 64 0) i 0) j ≡ 1 → ⊥
no_bit i j one = let zero = ap (λ x. bit_at x j) (zero_at i) in absurd (omega (arith, bit_at-zero j))
