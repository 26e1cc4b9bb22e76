use Rattle.std.proofs.Common.{◌≡◌, ℕ, suc, Bool, List, [], ◌∷◌, length, Option, Some, None, sym, refl, ap}
use Rattle.std.specs.Option.{option_and_then}
use Rattle.rules.specs.Bounds.{flags}
use Rattle.rules.specs.declared.Term.{Term}
use Rattle.rules.specs.Matches.{value}
use Rattle.reliances.specs.Unification.{Subst, through, unify, unify_all}
use Rattle.reliances.proofs.unifier.unify_terms.Goals as goal

and_then_none : {A B : Type 0} (f : A → Option B) (o : Option A) → ((x : A) → f x ≡ None) → option_and_then f o ≡ None
and_then_none f None h = refl
and_then_none f (Some x) h = h x

-- lists of two lengths are not made equal
all_apart : (rigid : ℕ → Bool) (m n : ℕ) (xs ys : List Term) (σ : Subst) → (length xs ≡ length ys → ⊥) → unify_all rigid m n xs ys σ ≡ None
all_apart rigid m n [] [] σ h = absurd (h refl)
all_apart rigid m n [] (t ∷ ts) σ h = refl
all_apart rigid m n (s ∷ ss) [] σ h = refl
all_apart rigid m n (s ∷ ss) (t ∷ ts) σ h =
    and_then_none (λ τ. unify_all rigid m n ss ts τ) (unify rigid σ (value (through σ m) s) (value (through σ n) t))
    (λ τ. all_apart rigid m n ss ts τ (λ e. h (ap suc e)))

pub returns-then-a-b : goal.returns-then-a-b
returns-then-a-b c = sym (all_apart (flags c.args.rigid.now) 0 12 c.args.a.now c.args.b.now c.args.sigma.now (λ e. c.if-a-b.true e))
