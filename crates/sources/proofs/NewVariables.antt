-- The new variables among terms, in the order in which they first stand.
-- Assumes nothing.
use Rattle.std.proofs.Common.{◌≡◌, ℕ, ◌≤◌, Bool, true, false, cond, ◌||◌, eqb, ◌⊎◌, List, [], ◌∷◌, ◌++◌, length, Decides, inl, inr, refl, sym, subst, ap, ◌∙◌, ⊎_elim, arith}
use Rattle.std.proofs.lemmas.Bool.{eqb-true, eq-eqb, false≢true}
use Rattle.rules.specs.declared.Term.{Term}
use Rattle.rules.specs.declared.Term.TheVariants.{Constant, Variable, Null}
use Rattle.rules.specs.Logic.{In}
use Rattle.rules.specs.Same.{kind_of, number_of}
use Rattle.sources.specs.Applying.{new_variables}

-- g picks what f does, and the variables among the terms
abbrev pub Adds : (ℕ → Bool) → List Term → (ℕ → Bool) → Type 0
Adds f ts g = (v : ℕ) → Decides (g v) ((f v ≡ true) ⊎ In (Variable v) ts)

pub same_bool : (b c : Bool) → (b ≡ true → c ≡ true) → (c ≡ true → b ≡ true) → b ≡ c
same_bool true true p q = refl
same_bool true false p q = sym (p refl)
same_bool false true p q = q refl
same_bool false false p q = refl

-- tests that say the same of each number find the same variables
pub same_variables : (f g : ℕ → Bool) (ts : List Term) → ((v : ℕ) → f v ≡ g v) → new_variables f ts ≡ new_variables g ts
same_variables f g ts e = λ i. new_variables (λ v. e v i) ts

-- what is old once w is found
abbrev with : (ℕ → Bool) → ℕ → ℕ → Bool
with f w v = f v || eqb v w

with_old : (f : ℕ → Bool) (w v : ℕ) → f v ≡ true → with f w v ≡ true
with_old f w v e = rw e

with_itself : (f : ℕ → Bool) (w v : ℕ) → v ≡ w → with f w v ≡ true
with_itself f w v e = case (f v) (eqb v w) (eq-eqb v w e)
  where
    case : (b c : Bool) → c ≡ true → (b || c) ≡ true
    case true c e = refl
    case false c e = e

from_with : (f : ℕ → Bool) (w v : ℕ) → with f w v ≡ true → (f v ≡ true) ⊎ (v ≡ w)
from_with f w v e = case (f v) (eqb v w) refl e
  where
    case : (b c : Bool) → c ≡ eqb v w → (b || c) ≡ true → (b ≡ true) ⊎ (v ≡ w)
    case true c q e = inl refl
    case false c q e = inr (eqb-true v w (sym q ∙ e))

not_with : (f : ℕ → Bool) (w v : ℕ) → with f w v ≡ false → f v ≡ false
not_with f w v e = case (f v) (eqb v w) e
  where
    case : (b c : Bool) → (b || c) ≡ false → b ≡ false
    case true c e = e
    case false c e = refl

variable_number : {v w : ℕ} → ◌≡◌ {A = Term} (Variable v) (Variable w) → v ≡ w
variable_number e = ap number_of e

adds_rest : (f g : ℕ → Bool) (t : Term) (ts : List Term) → ((v : ℕ) → Variable v ≡ t → ⊥) → Adds f (t ∷ ts) g → Adds f ts g
adds_rest f g t ts other d v = (
  λ e. ⊎_elim (λ o. inl o) (λ m. ⊎_elim (λ p. absurd (other v p)) (λ i. inr i) m) ((d v).0 e),
  λ s. (d v).1 (⊎_elim (λ o. inl o) (λ i. inr (inr i)) s),
)

adds_old : (f g : ℕ → Bool) (w : ℕ) (ts : List Term) → f w ≡ true → Adds f (Variable w ∷ ts) g → Adds f ts g
adds_old f g w ts old d v = (
  λ e. ⊎_elim (λ o. inl o) (λ m. ⊎_elim (λ p. inl (subst (λ x. f x ≡ true) (sym (variable_number p)) old)) (λ i. inr i) m) ((d v).0 e),
  λ s. (d v).1 (⊎_elim (λ o. inl o) (λ i. inr (inr i)) s),
)

adds_new : (f g : ℕ → Bool) (w : ℕ) (ts : List Term) → Adds f (Variable w ∷ ts) g → Adds (with f w) ts g
adds_new f g w ts d v = (
  λ e. ⊎_elim (λ o. inl (with_old f w v o)) (λ m. ⊎_elim (λ p. inl (with_itself f w v (variable_number p))) (λ i. inr i) m) ((d v).0 e),
  λ s. (d v).1 (⊎_elim (λ o. ⊎_elim (λ q. inl q) (λ e. inr (inl (ap (λ x. Variable x) e))) (from_with f w v o)) (λ i. inr (inr i)) s),
)

append_variable : (g : ℕ → Bool) (w : ℕ) (ts us : List Term) → ((f : ℕ → Bool) → Adds f ts g → new_variables f (ts ++ us) ≡ new_variables f ts ++ new_variables g us)
    → (f : ℕ → Bool) → Adds f (Variable w ∷ ts) g → (b : Bool) → f w ≡ b
    → cond b (new_variables f (ts ++ us)) (w ∷ new_variables (with f w) (ts ++ us)) ≡ cond b (new_variables f ts) (w ∷ new_variables (with f w) ts) ++ new_variables g us
append_variable g w ts us rest f d true e = rest f (adds_old f g w ts e d)
append_variable g w ts us rest f d false e = ap (λ vs. w ∷ vs) (rest (with f w) (adds_new f g w ts d))

-- the new variables of two lists
pub variables_append : (f g : ℕ → Bool) (ts us : List Term) → Adds f ts g → new_variables f (ts ++ us) ≡ new_variables f ts ++ new_variables g us
variables_append f g [] us d =
    same_variables f g us (λ v. same_bool (f v) (g v) (λ e. (d v).1 (inl e)) (λ e. ⊎_elim (λ o. o) (λ m. absurd m) ((d v).0 e)))
variables_append f g (Constant n ∷ ts) us d =
    variables_append f g ts us (adds_rest f g (Constant n) ts (λ v e. let z = ap kind_of e in absurd (omega arith)) d)
variables_append f g (Null n ∷ ts) us d =
    variables_append f g ts us (adds_rest f g (Null n) ts (λ v e. let z = ap kind_of e in absurd (omega arith)) d)
variables_append f g (Variable w ∷ ts) us d =
    append_variable g w ts us (λ h e. variables_append h g ts us e) f d (f w) refl

longer_variable : (w : ℕ) (ts us : List Term) → ((f : ℕ → Bool) → length (new_variables f ts) ≤ length (new_variables f (ts ++ us))) → (f : ℕ → Bool) (b : Bool)
    → length (cond b (new_variables f ts) (w ∷ new_variables (with f w) ts)) ≤ length (cond b (new_variables f (ts ++ us)) (w ∷ new_variables (with f w) (ts ++ us)))
longer_variable w ts us rest f true = rest f
longer_variable w ts us rest f false = let l = rest (with f w) in omega arith

pub more_variables : (f : ℕ → Bool) (ts us : List Term) → length (new_variables f ts) ≤ length (new_variables f (ts ++ us))
more_variables f [] us = omega arith
more_variables f (Constant n ∷ ts) us = more_variables f ts us
more_variables f (Null n ∷ ts) us = more_variables f ts us
more_variables f (Variable w ∷ ts) us = longer_variable w ts us (λ g. more_variables g ts us) f (f w)

module _ (w v : ℕ) (ts : List Term) (f : ℕ → Bool) where
  not_old_variable : ((g : ℕ → Bool) → In v (new_variables g ts) → g v ≡ false) → (b : Bool) → f w ≡ b → In v (cond b (new_variables f ts) (w ∷ new_variables (with f w) ts)) → f v ≡ false
  not_old_variable rest true e m = rest f m
  not_old_variable rest false e (inl p) = ap f p ∙ e
  not_old_variable rest false e (inr m) = not_with f w v (rest (with f w) m)

  stands_variable : ((g : ℕ → Bool) → In v (new_variables g ts) → In (Variable v) ts) → (b : Bool) → In v (cond b (new_variables f ts) (w ∷ new_variables (with f w) ts)) → In (Variable v) (Variable w ∷ ts)
  stands_variable rest true m = inr (rest f m)
  stands_variable rest false (inl p) = inl (ap (λ x. Variable x) p)
  stands_variable rest false (inr m) = inr (rest (with f w) m)

  new_variable : ((g : ℕ → Bool) → In (Variable v) ts → g v ≡ false → In v (new_variables g ts)) → f v ≡ false → (b : Bool) → f w ≡ b → In (Variable v) (Variable w ∷ ts) → In v (cond b (new_variables f ts) (w ∷ new_variables (with f w) ts))
  new_variable rest new true e (inl p) = absurd (false≢true (sym new ∙ ap f (variable_number p) ∙ e))
  new_variable rest new true e (inr m) = rest f m new
  new_variable rest new false e (inl p) = inl (variable_number p)
  new_variable rest new false e (inr m) = case (with f w v) refl
    where
      case : (b : Bool) → with f w v ≡ b → In v (w ∷ new_variables (with f w) ts)
      case true q = ⊎_elim (λ o. absurd (false≢true (sym new ∙ o))) (λ p. inl p) (from_with f w v q)
      case false q = inr (rest (with f w) m q)

-- a new variable is not old
pub not_old : (f : ℕ → Bool) (v : ℕ) (ts : List Term) → In v (new_variables f ts) → f v ≡ false
not_old f v [] m = absurd m
not_old f v (Constant n ∷ ts) m = not_old f v ts m
not_old f v (Null n ∷ ts) m = not_old f v ts m
not_old f v (Variable w ∷ ts) m = not_old_variable w v ts f (λ g. not_old g v ts) (f w) refl m

-- it stands among the terms
pub new_stands : (f : ℕ → Bool) (v : ℕ) (ts : List Term) → In v (new_variables f ts) → In (Variable v) ts
new_stands f v [] m = m
new_stands f v (Constant n ∷ ts) m = inr (new_stands f v ts m)
new_stands f v (Null n ∷ ts) m = inr (new_stands f v ts m)
new_stands f v (Variable w ∷ ts) m = stands_variable w v ts f (λ g. new_stands g v ts) (f w) m

-- what stands there and is not old is new
pub stands_new : (f : ℕ → Bool) (v : ℕ) (ts : List Term) → In (Variable v) ts → f v ≡ false → In v (new_variables f ts)
stands_new f v [] m e = m
stands_new f v (Constant n ∷ ts) (inl p) e = let z = ap kind_of p in absurd (omega arith)
stands_new f v (Constant n ∷ ts) (inr m) e = stands_new f v ts m e
stands_new f v (Null n ∷ ts) (inl p) e = let z = ap kind_of p in absurd (omega arith)
stands_new f v (Null n ∷ ts) (inr m) e = stands_new f v ts m e
stands_new f v (Variable w ∷ ts) m e = new_variable w v ts f (λ g. stands_new g v ts) e (f w) refl m
