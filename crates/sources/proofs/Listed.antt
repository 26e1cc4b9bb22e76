-- Elements of a list, and their places.
-- Assumes nothing.
use Rattle.std.proofs.Common.{ℕ, zero, suc, ◌<◌, List, [], ◌∷◌, length, get_or, inl, inr, refl, sym, subst, arith}
use Rattle.std.proofs.lemmas.List.{get_or_default}
use Rattle.rules.specs.Logic.{In}
use Rattle.volumes.specs.Answers.{Nth}

pub in_at : {A : Type 0} (d : A) (xs : List A) (i : ℕ) → i < length xs → In (get_or xs i d) xs
in_at d [] i l = absurd (omega arith)
in_at d (x ∷ xs) zero l = inl refl
in_at d (x ∷ xs) (suc i) l = inr (in_at d xs i (omega arith))

pub in_nth : {A : Type 0} (xs : List A) (i : ℕ) (x : A) → Nth xs i x → In x xs
in_nth {A} xs i x n = subst (λ (y : A). In y xs) (n.1 x) (in_at x xs i n.0)

pub nth_at : {A : Type 0} (d : A) (xs : List A) (i : ℕ) → i < length xs → Nth xs i (get_or xs i d)
nth_at d xs i l = (l, λ e. get_or_default xs i e d l)

-- an element has a place
pub nth_of : {A : Type 0} (x : A) (xs : List A) → In x xs → (i : ℕ) × Nth xs i x
nth_of x [] m = absurd m
nth_of x (y ∷ ys) (inl e) = (0, (omega arith, λ d. sym e))
nth_of x (y ∷ ys) (inr m) = let r = nth_of x ys m in (suc r.0, (let l = r.1.0 in omega arith, λ d. r.1.1 d))
