-- Tests of the variables below 12 that another test keeps.
-- Assumes nothing.
use Rattle.std.proofs.Common.{◌≡◌, ℕ, zero, suc, ◌+◌, ◌<◌, ◌≤◌, Bool, true, false, cond, List, [], ◌∷◌, Decides, sym, ◌⊎◌, refl, ap, ◌∙◌, inl, inr, ⊎_elim, arith}
use Rattle.std.proofs.lemmas.Bool.Decides.{Decides-like}
use Rattle.std.proofs.lemmas.Bool.{false≢true, cases_eq}
use Rattle.std.specs.List.{filter, range_with_len}
use Rattle.rules.specs.Logic.{In}
use Rattle.rules.specs.Bounds.{every, some}
use Rattle.rules.proofs.Membership.{decides_every}
use Rattle.matches.proofs.Basics.{decides_some}

kept_head : {A : Type 0} (e : A → Bool) (x y : A) (rest : List A) (b : Bool) → e y ≡ b → e x ≡ true → (x ≡ y) ⊎ In x rest → In x (cond b (y ∷ rest) rest)
kept_head e x y rest true q k i = i
kept_head e x y rest false q k (inl p) = absurd (false≢true (sym q ∙ ap e (sym p) ∙ k))
kept_head e x y rest false q k (inr j) = j

pub in_kept : {A : Type 0} (e : A → Bool) (x : A) (xs : List A) → In x xs → e x ≡ true → In x (filter e xs)
in_kept e x [] i k = i
in_kept e x (y ∷ ys) (inl p) k = kept_head e x y (filter e ys) (e y) refl k (inl p)
in_kept e x (y ∷ ys) (inr j) k = kept_head e x y (filter e ys) (e y) refl k (inr (in_kept e x ys j k))

head_kept : {A : Type 0} (e : A → Bool) (x y : A) (rest : List A) (b : Bool) → e y ≡ b → In x (cond b (y ∷ rest) rest) → ((x ≡ y) × (e y ≡ true)) ⊎ In x rest
head_kept e x y rest true q (inl p) = inl (p, q)
head_kept e x y rest true q (inr j) = inr j
head_kept e x y rest false q i = inr i

kept_passes : {A : Type 0} (e : A → Bool) (x : A) (xs : List A) → In x (filter e xs) → e x ≡ true
kept_passes e x [] i = absurd i
kept_passes e x (y ∷ ys) i = ⊎_elim (λ p. ap e p.0 ∙ p.1) (kept_passes e x ys) (head_kept e x y (filter e ys) (e y) refl i)

pub kept_of : {A : Type 0} (e : A → Bool) (x : A) (xs : List A) → In x (filter e xs) → In x xs
kept_of e x [] i = i
kept_of e x (y ∷ ys) i = ⊎_elim (λ p. inl p.0) (λ j. inr (kept_of e x ys j)) (head_kept e x y (filter e ys) (e y) refl i)

in_range : (n a v : ℕ) → a ≤ v → v < a + n → In v (range_with_len a n)
in_range zero a v l m = absurd (omega arith)
in_range (suc n) a v l m = ⊎_elim (λ e. inl e) (λ ne. inr (in_range n (a + 1) v (omega arith) (omega arith))) (cases_eq v a)

module _ (e : ℕ → Bool) (E : ℕ → Type 0) (test : (v : ℕ) → Decides (e v) (E v)) (below : (v : ℕ) → E v → v < 12)
    (p : ℕ → Bool) (P : ℕ → Type 0) (decided : (v : ℕ) → Decides (p v) (P v)) where
  kept_in : (v : ℕ) → E v → In v (filter e (range_with_len 0 12))
  kept_in v x = let l = below v x in in_kept e v (range_with_len 0 12) (in_range 12 0 v (omega arith) (omega arith)) ((test v).1 x)

  kept_from : (v : ℕ) → In v (filter e (range_with_len 0 12)) → E v
  kept_from v i = (test v).0 (kept_passes e v (range_with_len 0 12) i)

  pub decides_all_kept : Decides (every p (filter e (range_with_len 0 12))) ((v : ℕ) → E v → P v)
  decides_all_kept =
      Decides-like (every p (filter e (range_with_len 0 12))) (λ f v x. f v (kept_in v x)) (λ f v i. f v (kept_from v i))
      (decides_every p P decided (filter e (range_with_len 0 12)))

  pub decides_some_kept : Decides (some p (filter e (range_with_len 0 12))) ((v : ℕ) × E v × P v)
  decides_some_kept =
      Decides-like (some p (filter e (range_with_len 0 12))) (λ s. (s.0, kept_from s.0 s.1, s.2)) (λ s. (s.0, kept_in s.0 s.1, s.2))
      (decides_some p P decided (filter e (range_with_len 0 12)))
