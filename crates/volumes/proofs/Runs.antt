-- Things one after another: what the model reads is what stands there, and nothing else is.
use Rattle.std.proofs.Common.{◌≡◌, ℕ, zero, suc, ◌+◌, ◌<◌, List, [], ◌∷◌, ◌++◌, length, get_or, Ok, Err, Result, sym, refl, ap, ◌∙◌, subst, arith}
use Rattle.volumes.specs.Sequence.{Stand, Run}
use Rattle.volumes.specs.Reading.{and_then, read_run}

module _ {A E : Type 0} (Is : ℕ → ℕ → Result A E → Type 0) (next : ℕ → ℕ → A → ℕ) where
  -- one more thing at the end
  pub stand_more : (i p : ℕ) (xs : List A) (q : ℕ) (x : A) → Stand Is next i p xs q → Is (i + length xs) q (Ok x) → Stand Is next i p (xs ++ x ∷ []) (next (i + length xs) q x)
  stand_more i p [] q x s h =
      let e : i ≡ i + 0 = omega arith in
      (subst (λ (k : ℕ). Is i k (Ok x)) (sym s) (subst (λ (j : ℕ). Is j q (Ok x)) (sym e) h), (λ t. next (e t) (s t) x))
  stand_more i p (y ∷ xs) q x s h =
      let e : i + suc (length xs) ≡ i + 1 + length xs = omega arith in
      let r = stand_more (i + 1) (next i p y) xs q x s.1 (subst (λ (j : ℕ). Is j q (Ok x)) e h) in
      (s.0, subst (λ (j : ℕ). Stand Is next (i + 1) (next i p y) (xs ++ x ∷ []) (next j q x)) (sym e) r)

  -- what each thing keeps holds after all of them
  pub stand_kept : (P : ℕ → ℕ → Type 0) → ((i p : ℕ) (x : A) → P i p → Is i p (Ok x) → P (i + 1) (next i p x)) → (i p : ℕ) (xs : List A) (q : ℕ) → P i p → Stand Is next i p xs q → P (i + length xs) q
  stand_kept P keep i p [] q h s =
      let e : i ≡ i + 0 = omega arith in
      subst (λ (j : ℕ). P j q) e (subst (λ (k : ℕ). P i k) s h)
  stand_kept P keep i p (x ∷ xs) q h s =
      let e : i + 1 + length xs ≡ i + suc (length xs) = omega arith in
      subst (λ (j : ℕ). P j q) e (stand_kept P keep (i + 1) (next i p x) xs q (keep i p x h s.0) s.1)

  -- the k-th thing and its place, with what each thing keeps
  pub stand_nth : (P : ℕ → ℕ → Type 0) → ((i p : ℕ) (x : A) → P i p → Is i p (Ok x) → P (i + 1) (next i p x)) → (i p : ℕ) (xs : List A) (q : ℕ) → P i p → Stand Is next i p xs q → (k : ℕ) → k < length xs → (d : A) → (r : ℕ) × P (i + k) r × Is (i + k) r (Ok (get_or xs k d))
  stand_nth P keep i p [] q h s k l d = absurd (omega arith)
  stand_nth P keep i p (x ∷ xs) q h s zero l d =
      let e : i ≡ i + 0 = omega arith in
      (p, subst (λ (j : ℕ). P j p) e h, subst (λ (j : ℕ). Is j p (Ok x)) e s.0)
  stand_nth P keep i p (x ∷ xs) q h s (suc k) l d =
      let e : i + 1 + k ≡ i + suc k = omega arith in
      let t = stand_nth P keep (i + 1) (next i p x) xs q (keep i p x h s.0) s.1 k (omega arith) d in
      (t.0, subst (λ (j : ℕ). P j t.0) e t.1, subst (λ (j : ℕ). Is j t.0 (Ok (get_or xs k d))) e t.2)

  module _ (read : ℕ → ℕ → Result A E) where
    tail_right : (i p n : ℕ) (x : A) → Is i p (Ok x) → (r : Result (List A × ℕ) E) → Run Is next (i + 1) (next i p x) n r → Run Is next i p (suc n) (and_then r (λ xs. Ok (x ∷ xs.0, xs.1)))
    tail_right i p n x h (Ok xs) k = (ap suc k.0, (h, k.1))
    tail_right i p n x h (Err f) k =
        let e : i + 1 + length k.before ≡ i + suc (length k.before) = omega arith in
        let few = k.fewer in
        record { before = x ∷ k.before; fewer = omega arith; place = k.place; stand = (h, k.stand); wrong = subst (λ (j : ℕ). Is j k.place (Err f)) e k.wrong }

    step_right : (i p n : ℕ) (r : Result A E) → Is i p r → (rest : A → Result (List A × ℕ) E) → ((x : A) → Run Is next (i + 1) (next i p x) n (rest x)) → Run Is next i p (suc n) (and_then r (λ x. and_then (rest x) (λ xs. Ok (x ∷ xs.0, xs.1))))
    step_right i p n (Ok x) h rest k = tail_right i p n x h (rest x) (k x)
    step_right i p n (Err f) h rest k =
        let e : i ≡ i + 0 = omega arith in
        record { before = []; fewer = omega arith; place = p; stand = refl; wrong = subst (λ (j : ℕ). Is j p (Err f)) e h }

    -- where each thing read is what is there, so is the run
    pub run_right : ((i p : ℕ) → Is i p (read i p)) → (i p n : ℕ) → Run Is next i p n (read_run read next i p n)
    run_right right i p zero = (refl, refl)
    run_right right i p (suc n) =
        step_right i p n (read i p) (right i p) (λ x. read_run read next (i + 1) (next i p x) n) (λ x. run_right right (i + 1) (next i p x) n)

    module _ (only : (i p : ℕ) (r : Result A E) → Is i p r → read i p ≡ r) where
      only_ok : (i p : ℕ) (xs : List A) (q n : ℕ) → length xs ≡ n → Stand Is next i p xs q → read_run read next i p n ≡ Ok (xs, q)
      only_ok i p [] q zero l s = ap (λ k. Ok ([], k)) s
      only_ok i p [] q (suc n) l s = absurd (omega arith)
      only_ok i p (x ∷ xs) q zero l s = absurd (omega arith)
      only_ok i p (x ∷ xs) q (suc n) l s =
          ap (λ r. and_then r (λ x. and_then (read_run read next (i + 1) (next i p x) n) (λ xs. Ok (x ∷ xs.0, xs.1)))) (only i p (Ok x) s.0)
          ∙ ap (λ r. and_then r (λ xs. Ok (x ∷ xs.0, xs.1))) (only_ok (i + 1) (next i p x) xs q n (omega arith) s.1)

      only_err : (i p : ℕ) (xs : List A) (q n : ℕ) (f : E) → Stand Is next i p xs q → length xs < n → Is (i + length xs) q (Err f) → read_run read next i p n ≡ Err f
      only_err i p xs q zero f s l h = absurd (omega arith)
      only_err i p [] q (suc n) f s l h =
          let e : i + 0 ≡ i = omega arith in
          ap (λ r. and_then r (λ x. and_then (read_run read next (i + 1) (next i p x) n) (λ xs. Ok (x ∷ xs.0, xs.1))))
          (ap (read i) s ∙ only i q (Err f) (subst (λ (j : ℕ). Is j q (Err f)) e h))
      only_err i p (x ∷ xs) q (suc n) f s l h =
          let e : i + suc (length xs) ≡ i + 1 + length xs = omega arith in
          ap (λ r. and_then r (λ x. and_then (read_run read next (i + 1) (next i p x) n) (λ xs. Ok (x ∷ xs.0, xs.1)))) (only i p (Ok x) s.0)
          ∙ ap (λ r. and_then r (λ xs. Ok (x ∷ xs.0, xs.1))) (only_err (i + 1) (next i p x) xs q n f s.1 (omega arith) (subst (λ (j : ℕ). Is j q (Err f)) e h))

      -- where nothing but what is read is there, so it is with the run
      pub run_only : (i p n : ℕ) (r : Result (List A × ℕ) E) → Run Is next i p n r → read_run read next i p n ≡ r
      run_only i p n (Ok xs) h = only_ok i p xs.0 xs.1 n h.0 h.1
      run_only i p n (Err f) h = only_err i p h.before h.place n f h.stand h.fewer h.wrong

-- a loop of reads that went through, and one that broke off
module _ {A E : Type 0} (read : ℕ → ℕ → Result A E) (next : ℕ → ℕ → A → ℕ) where
  pub run_ok : (i p : ℕ) (xs : List A) (q n : ℕ) → length xs ≡ n → Stand (λ i p r. read i p ≡ r) next i p xs q → read_run read next i p n ≡ Ok (xs, q)
  run_ok i p xs q n l s = only_ok (λ i p r. read i p ≡ r) next read (λ i p r h. h) i p xs q n l s

  pub run_err : (i p : ℕ) (xs : List A) (q n : ℕ) (f : E) → Stand (λ i p r. read i p ≡ r) next i p xs q → length xs < n → read (i + length xs) q ≡ Err f → read_run read next i p n ≡ Err f
  run_err i p xs q n f s l h = only_err (λ i p r. read i p ≡ r) next read (λ i p r h. h) i p xs q n f s l h
