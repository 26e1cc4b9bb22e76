-- What all readers' proofs share.
use Rattle.std.proofs.Common.{◌≡◌, ℕ, ◌≤◌, ◌⊎◌, sym, subst, inl, inr, ⊎_elim, arith}
use Rattle.std.proofs.lemmas.Bool.{cases_lt}

-- where something is said, and nothing but x can be, x is said
pub said : {R : Type 0} (Says : R → Type 0) (x : R) → ((r : R) → Says r → x ≡ r) → (r : R) × Says r → Says x
said Says x only t = subst Says (sym (only t.0 t.1)) t.1

-- whether n is between two bounds
pub both_ends : (a n b : ℕ) → ((a ≤ n) × (n ≤ b)) ⊎ ((a ≤ n) × (n ≤ b) → ⊥)
both_ends a n b =
    ⊎_elim
    (λ l. inr (λ h. omega arith))
    (λ s. ⊎_elim (λ l. inr (λ h. omega arith)) (λ t. inl (s, t)) (cases_lt b n))
    (cases_lt n a)
