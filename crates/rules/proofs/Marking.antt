-- The marks of predicates, bit by bit.
-- Assumes nothing.
use Rattle.std.proofs.Common.{◌≡◌, ℕ, ◌*◌, ◌%◌, ◌^◌, ◌<◌, w64, Bool, true, false, cond, not, ◌||◌, eqb, List, [], ◌∷◌, ◌++◌, bit_and, bit_or, sym, refl, ap, ◌∙◌, inl, inr, ⊎_elim, arith}
use Rattle.std.proofs.lemmas.Bool.{cond-true, cond-false, cases_Bool, cases_eq, eqb-true, false≢true, both_ways}
use Rattle.std.proofs.lemmas.Bool.Decides.{Decides-eqb}
use Rattle.std.proofs.Math.Bool.{or-false}
use Rattle.std.proofs.Math.Nat.{mod-lt}
use Rattle.std.proofs.lemmas.Nat.{and_le_l}
use Rattle.std.proofs.lemmas.Nat.Bits.{bit_at-zero, bit_at-lt, bit_at_and, bit_at_set_same, bit_at_set_other, bit_at-trailing_zeros}
use Rattle.std.specs.Int.{bit_at, trailing_zeros}
use Rattle.std.proofs.lemmas.List.Folds.{list_any-append}
use Rattle.rules.specs.Logic.{In, Formula}
use Rattle.rules.proofs.Membership.{in_right, false_from}
use Rattle.rules.specs.Bounds.{some, MarksAre, near?}

pub some_from : {A : Type 0} (p : A → Bool) (xs : List A) → some p xs ≡ true → (x : A) × In x xs × (p x ≡ true)
some_from {A} p [] e = absurd (false≢true e)
some_from {A} p (x ∷ xs) e =
    ⊎_elim
    (λ q. (x, inl refl, q))
    (λ q. let r = some_from p xs (sym (ap (λ b. b || some p xs) q) ∙ e) in (r.0, inr r.1, r.2))
    (cases_Bool (p x))

pub some_in : {A : Type 0} (p : A → Bool) (x : A) (xs : List A) → In x xs → p x ≡ true → some p xs ≡ true
some_in p x [] i e = absurd i
some_in p x (y ∷ ys) (inl q) e = ap (λ b. b || some p ys) (ap p (sym q) ∙ e)
some_in p x (y ∷ ys) (inr i) e =
    ⊎_elim (λ q. ap (λ b. b || some p ys) q) (λ q. ap (λ b. b || some p ys) q ∙ some_in p x ys i e) (cases_Bool (p y))

-- where nothing passes a test, nothing passes one that asks for more
pub some_less : {A : Type 0} (p q : A → Bool) → ((x : A) → p x ≡ true → q x ≡ true) → (xs : List A) → some q xs ≡ false → some p xs ≡ false
some_less p q more xs e =
    ⊎_elim (λ t. let r = some_from p xs t in absurd (both_ways (some q xs) e (some_in q r.0 xs r.1 (more r.0 r.2)))) (λ f. f) (cases_Bool (some p xs))

-- the predicate has this remainder
abbrev of_rest : ℕ → Formula → Bool
of_rest i a = eqb (a.predicate % 64) i

pub none_marked : MarksAre [] 0
none_marked i l = bit_at-zero i

-- one formula more
module _ (F : List Formula) (m : ℕ) (are : MarksAre F m) (a : Formula) (within : a.predicate % 64 < 64) where
  abbrev k : ℕ
  k = a.predicate % 64

  pub one_marked : MarksAre (F ++ (a ∷ [])) (bit_or m (1 * 2 ^ k % 2 ^ 64))
  one_marked i l =
      ⊎_elim
      (λ (e : i ≡ k).
      ap (bit_at (bit_or m (1 * 2 ^ k % 2 ^ 64))) e ∙ bit_at_set_same w64 m k within
      ∙ sym (cond-true {A = ℕ} (some (of_rest i) (F ++ (a ∷ []))) 1 0 (some_in (of_rest i) a (F ++ (a ∷ [])) (in_right a F (a ∷ []) (inl refl)) ((Decides-eqb k i).1 (sym e)))))
      (λ ne.
      bit_at_set_other w64 m k within i ne ∙ are i l
      ∙ ap (λ (b : Bool). cond b 1 0) (sym (list_any-append (of_rest i) F (a ∷ []) ∙ ap (λ b. some (of_rest i) F || (b || false)) (false_from (eqb k i) (Decides-eqb k i) (λ e. ne (sym e))) ∙ or-false (some (of_rest i) F))))
      (cases_eq i k)

-- marks that have a bit in common
module _ (F G : List Formula) (x y : ℕ) (fits : x < 2 ^ 64) (one : MarksAre F x) (other : MarksAre G y) where
  abbrev Near : Bool
  Near = near? F G

  marked_from : (H : List Formula) (m i : ℕ) → MarksAre H m → i < 64 → bit_at m i ≡ 1 → (a : Formula) × In a H × (a.predicate % 64 ≡ i)
  marked_from H m i are l e =
      ⊎_elim
      (λ q. let r = some_from (of_rest i) H q in (r.0, r.1, eqb-true (r.0.predicate % 64) i r.2))
      (λ q. let z = are i l in let n = cond-false {A = ℕ} (some (of_rest i) H) 1 0 q in absurd (omega (arith, z, n, e)))
      (cases_Bool (some (of_rest i) H))

  marked_at : (H : List Formula) (m : ℕ) (a : Formula) → MarksAre H m → In a H → a.predicate % 64 < 64 → bit_at m (a.predicate % 64) ≡ 1
  marked_at H m a are i l =
      are (a.predicate % 64) l ∙ cond-true {A = ℕ} (some (of_rest (a.predicate % 64)) H) 1 0 (some_in (of_rest (a.predicate % 64)) a H i ((Decides-eqb (a.predicate % 64) (a.predicate % 64)).1 refl))

  pub near_is : not (eqb (bit_and x y) 0) ≡ near? F G
  near_is = ⊎_elim meets apart (cases_Bool Near)
    where
      meets : Near ≡ true → not (eqb (bit_and x y) 0) ≡ Near
      meets q =
          let r = some_from (λ b. some (λ a. eqb (a.predicate % 64) (b.predicate % 64)) F) G q in
          let s = some_from (λ a. eqb (a.predicate % 64) (r.0.predicate % 64)) F r.2 in
          let same = eqb-true (s.0.predicate % 64) (r.0.predicate % 64) s.2 in
          let i = r.0.predicate % 64 in
          let p : bit_at x i ≡ 1 = ap (bit_at x) (sym same) ∙ marked_at F x s.0 one s.1 (mod-lt s.0.predicate (omega arith)) in
          let t : bit_at y i ≡ 1 = marked_at G y r.0 other r.1 (mod-lt r.0.predicate (omega arith)) in
          let both = bit_at_and x y i in
          ap not (false_from (eqb (bit_and x y) 0) (Decides-eqb (bit_and x y) 0)
          (λ e. let z = ap (λ n. bit_at n i) e ∙ bit_at-zero i in absurd (omega (arith, z, both, p, t)))) ∙ sym q

      lowest : 0 < bit_and x y → Near ≡ true
      lowest more =
          let less = and_le_l x y in
          let i = trailing_zeros w64 (bit_and x y) in
          let h = bit_at-trailing_zeros w64 (bit_and x y) more (omega (arith, fits, less)) in
          let both = bit_at_and x y i in
          let p : bit_at x i ≡ 1 = omega (arith, both, h.1, bit_at-lt x i) in
          let t : bit_at y i ≡ 1 = omega (arith, both, h.1, bit_at-lt y i) in
          let a = marked_from F x i one h.0 p in
          let b = marked_from G y i other h.0 t in
          some_in (λ b. some (λ a. eqb (a.predicate % 64) (b.predicate % 64)) F) b.0 G b.1
          (some_in (λ a. eqb (a.predicate % 64) (b.0.predicate % 64)) a.0 F a.1 ((Decides-eqb (a.0.predicate % 64) (b.0.predicate % 64)).1 (a.2 ∙ sym b.2)))

      apart : Near ≡ false → not (eqb (bit_and x y) 0) ≡ Near
      apart q =
          ⊎_elim
          (λ e. ap not ((Decides-eqb (bit_and x y) 0).1 e) ∙ sym q)
          (λ ne. absurd (both_ways Near q (lowest (omega (arith, ne)))))
          (cases_eq (bit_and x y) 0)
