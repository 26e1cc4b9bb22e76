-- One turn of a loop that reads one thing after another.
use Rattle.std.proofs.Common.{◌≡◌, ℕ, ◌+◌, ◌<◌, List, [], ◌∷◌, ◌++◌, length, Ok, Err, Result, sym, refl, ap, ◌∙◌, subst, zero-add, arith}
use Rattle.std.proofs.lemmas.List.{length_push}
use Rattle.volumes.specs.Sequence.{Stand}
use Rattle.volumes.specs.Reading.{read_run}
use Rattle.volumes.proofs.Runs.{stand_more, run_ok, run_err}

-- the things that were read one after another from p to q
abbrev pub Reads : {A E : Type 0} → (ℕ → ℕ → Result A E) → (ℕ → ℕ → A → ℕ) → ℕ → List A → ℕ → Type 0
Reads read next p xs q = Stand (λ i r x. read i r ≡ x) next 0 p xs q

-- i things were read, and the next read gives a thing or a fault
module _ {A E : Type 0} (read : ℕ → ℕ → Result A E) (next : ℕ → ℕ → A → ℕ) (p : ℕ) (xs : List A) (i q : ℕ) (h : Reads read next p xs q) (long : length xs ≡ i) where
  index : 0 + length xs ≡ i
  index = zero-add (length xs) ∙ long

  -- one thing further: the things ys, which end at r
  pub reads_more : (x : A) (ys : List A) (r : ℕ) → read i q ≡ Ok x → next i q x ≡ r → ys ≡ xs ++ x ∷ [] → Reads read next p ys r
  reads_more x ys r e to are =
      let more = stand_more (λ i r x. read i r ≡ x) next 0 p xs q x h (subst (λ (j : ℕ). read j q ≡ Ok x) (sym index) e) in
      rw are (subst (Reads read next p (xs ++ x ∷ [])) (ap (λ j. next j q x) index ∙ to) more)

  pub reads_stop : (n : ℕ) (f : E) → i < n → read i q ≡ Err f → read_run read next 0 p n ≡ Err f
  reads_stop n f l e = run_err read next 0 p xs q n f h (omega arith) (subst (λ (j : ℕ). read j q ≡ Err f) (sym index) e)

  pub reads_done : (n : ℕ) → i ≡ n → read_run read next 0 p n ≡ Ok (xs, q)
  reads_done n e = run_ok read next 0 p xs q n (long ∙ e) h

  -- the turn's invariant again, one thing further
  pub reads_on : (x : A) (r : ℕ) → read i q ≡ Ok x → next i q x ≡ r → (ys : List A) × (length ys ≡ i + 1) × Reads read next p ys r
  reads_on x r e to =
      (xs ++ x ∷ [], length_push xs x ∙ ap (λ n. n + 1) long, reads_more x (xs ++ x ∷ []) r e to refl)
