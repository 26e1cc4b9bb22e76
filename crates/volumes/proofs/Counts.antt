-- The count of a volume is read exactly where its contents are whole, and a fault is the first one before them.
use Rattle.std.proofs.Common.{◌≡◌, ℕ, zero, suc, ◌+◌, ◌*◌, ◌<◌, ◌≤◌, cond, ◌⊎◌, List, length, Ok, Err, sym, refl, ap, ◌∙◌, subst, inl, inr, ⊎_elim, arith}
use Rattle.std.proofs.lemmas.Bool.{cases_lt, cases_eq, le-leb, lt-leb, eq-eqb, ne_eqb, lt-ltb, le-ltb}
use Rattle.volumes.specs.declared.kind.VolumeKind.{VolumeKind}
use Rattle.faults.specs.declared.VolumeFault.TheVariants.{Short, FirstByte, TooMany, NotRising}
use Rattle.faults.specs.declared.Fault.{Fault}
use Rattle.faults.specs.Faults.{fault}
use Rattle.volumes.specs.Layout.{at, first_byte_of, most, count, contents_end, ContentsWhole, ContentsWrong, number}
use Rattle.volumes.specs.Reading.{read_count, read_rising}

module _ (k : VolumeKind) (bs : List ℕ) where
  pub whole_count : ContentsWhole k bs → read_count k bs ≡ Ok (count bs)
  whole_count h = rw (le-leb _ _ h.head, eq-eqb _ _ h.first, le-leb _ _ h.few, le-leb _ _ h.whole) refl

  pub wrong_count : (f : Fault) → ContentsWrong k bs f → read_count k bs ≡ Err f
  wrong_count f (ContentsWrong.no_head a is) = rw (lt-leb _ _ a) (ap (λ f. Err f) (sym is))
  wrong_count f (ContentsWrong.first_byte a b is) = rw (le-leb _ _ a, ne_eqb _ _ b) (ap (λ f. Err f) (sym is))
  wrong_count f (ContentsWrong.too_many a b d is) = rw (le-leb _ _ a, eq-eqb _ _ b, lt-leb _ _ d) (ap (λ f. Err f) (sym is))
  wrong_count f (ContentsWrong.no_contents a b d g is) = rw (le-leb _ _ a, eq-eqb _ _ b, le-leb _ _ d, lt-leb _ _ g) (ap (λ f. Err f) (sym is))

  -- the contents are whole, or there is a fault
  pub contents_some : ContentsWhole k bs ⊎ ((f : Fault) × ContentsWrong k bs f)
  contents_some =
      ⊎_elim
      (λ l. inr (fault Short 0 (length bs), ContentsWrong.no_head l refl))
      (λ a. ⊎_elim
      (λ b. ⊎_elim
      (λ l. inr (fault TooMany 0 1, ContentsWrong.too_many a b l refl))
      (λ d. ⊎_elim
      (λ l. inr (fault Short 0 (length bs), ContentsWrong.no_contents a b d l refl))
      (λ g. inl (record { head = a; first = b; few = d; whole = g }))
      (cases_lt (length bs) (contents_end k bs)))
      (cases_lt (most k) (count bs)))
      (λ n. inr (fault FirstByte 0 0, ContentsWrong.first_byte a n refl))
      (cases_eq (at bs 0) (first_byte_of k)))
      (cases_lt (length bs) 3)

-- the numbers from that of index i on to that of index j rise
abbrev pub RiseTo : List ℕ → ℕ → ℕ → Type 0
RiseTo bs i j = (l : ℕ) → i ≤ l → l < j → number bs l < number bs (l + 1)

-- the first of n numbers after that of index i that does not rise is that of index `index + 1`
pub record FallsAt (bs : List ℕ) (i n : ℕ) : Type 0 where
  pub index : ℕ
  pub from : i ≤ index
  pub below : index < i + n
  pub before : RiseTo bs i index
  pub falls : number bs (index + 1) ≤ number bs index

module _ (bs : List ℕ) where
  pub rising_all : (i n : ℕ) → RiseTo bs i (i + n) → read_rising bs i n ≡ Ok tt
  rising_all i zero h = refl
  rising_all i (suc n) h =
      ap (λ b. cond b (read_rising bs (i + 1) n) (Err (fault NotRising (i + 1) (3 + 4 * (i + 1))))) (lt-ltb (number bs i) (number bs (i + 1)) (h i (omega arith) (omega arith)))
      ∙ rising_all (i + 1) n (λ l a b. h l (omega arith) (omega arith))

  pub rising_falls : (i n : ℕ) (h : FallsAt bs i n) → read_rising bs i n ≡ Err (fault NotRising (h.index + 1) (3 + 4 * (h.index + 1)))
  rising_falls i zero h = let a = h.from in let b = h.below in absurd (omega arith)
  rising_falls i (suc n) h =
      let from = h.from in
      let below = h.below in
      ⊎_elim
      (λ e.
      let f : number bs (i + 1) ≤ number bs i = subst (λ (j : ℕ). number bs (j + 1) ≤ number bs j) (sym e) h.falls in
      ap (λ b. cond b (read_rising bs (i + 1) n) (Err (fault NotRising (i + 1) (3 + 4 * (i + 1))))) (le-ltb (number bs i) (number bs (i + 1)) f)
      ∙ ap (λ j. Err (fault NotRising (j + 1) (3 + 4 * (j + 1)))) e)
      (λ ne.
      let other : i ≡ h.index → ⊥ = ne in
      ap (λ b. cond b (read_rising bs (i + 1) n) (Err (fault NotRising (i + 1) (3 + 4 * (i + 1))))) (lt-ltb (number bs i) (number bs (i + 1)) (h.before i (omega arith) (omega arith)))
      ∙ rising_falls (i + 1) n (record { index = h.index; from = omega arith; below = omega arith; before = λ l a b. h.before l (omega arith) b; falls = h.falls }))
      (cases_eq i h.index)

  pub rising_some : (i n : ℕ) → RiseTo bs i (i + n) ⊎ FallsAt bs i n
  rising_some i zero = inl (λ l a b. absurd (omega arith))
  rising_some i (suc n) =
      ⊎_elim
      (λ u. ⊎_elim
      (λ h. inl (λ l a b. ⊎_elim
      (λ e. subst (λ (j : ℕ). number bs j < number bs (j + 1)) e u)
      (λ ne. let other : i ≡ l → ⊥ = ne in h l (omega arith) (omega arith))
      (cases_eq i l)))
      (λ h. let from = h.from in let below = h.below in
      inr (record {
        index = h.index;
        from = omega arith;
        below = omega arith;
        before = λ l a b. ⊎_elim
            (λ e. subst (λ (j : ℕ). number bs j < number bs (j + 1)) e u)
            (λ ne. let other : i ≡ l → ⊥ = ne in h.before l (omega arith) b)
            (cases_eq i l);
        falls = h.falls;
      }))
      (rising_some (i + 1) n))
      (λ f. inr (record { index = i; from = omega arith; below = omega arith; before = λ l a b. absurd (omega arith); falls = f }))
      (cases_lt (number bs i) (number bs (i + 1)))
