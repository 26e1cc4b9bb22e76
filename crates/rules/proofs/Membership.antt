-- What stands in a list, and tests of lists that decide it.
-- Assumes nothing.
use Rattle.std.proofs.Common.{◌≡◌, ℕ, Bool, true, false, ◌&&◌, ◌||◌, eqb, ◌⊎◌, List, [], ◌∷◌, ◌++◌, map, Decides, sym, refl, ap, subst, inl, inr, ⊎_elim, arith}
use Rattle.std.proofs.lemmas.Bool.Decides.{Decides-eqb, Decides-and, Decides-or, Decides-not, Decides-like}
use Rattle.std.proofs.lemmas.Bool.{false≢true}
use Rattle.rules.specs.declared.Term.{Term}
use Rattle.rules.specs.declared.Term.TheVariants.{Constant, Variable, Null}
use Rattle.rules.specs.declared.Atom.{Atom}
use Rattle.rules.specs.Logic.{In, Each, Formula, Implication, formula_of, terms_of, Existential}
use Rattle.rules.specs.Bounds.{every, some, is_variable?, has?, existential?}

pub in_left : {A : Type 0} (x : A) (xs ys : List A) → In x xs → In x (xs ++ ys)
in_left x [] ys i = absurd i
in_left x (z ∷ zs) ys (inl e) = inl e
in_left x (z ∷ zs) ys (inr i) = inr (in_left x zs ys i)

pub in_right : {A : Type 0} (x : A) (xs ys : List A) → In x ys → In x (xs ++ ys)
in_right x [] ys i = i
in_right x (z ∷ zs) ys i = inr (in_right x zs ys i)

pub in_either : {A : Type 0} (x : A) (xs ys : List A) → In x (xs ++ ys) → In x xs ⊎ In x ys
in_either x [] ys i = inr i
in_either x (z ∷ zs) ys (inl e) = inl (inl e)
in_either x (z ∷ zs) ys (inr i) = ⊎_elim (λ j. inl (inr j)) (λ j. inr j) (in_either x zs ys i)

pub decides_false : {P : Type 0} → (P → ⊥) → Decides false P
decides_false f = (λ e. absurd (false≢true e), λ p. absurd (f p))

pub false_from : {P : Type 0} (b : Bool) → Decides b P → (P → ⊥) → b ≡ false
false_from true d n = absurd (n (d.0 refl))
false_from false d n = refl

pub decides_every : {A : Type 0} (p : A → Bool) (P : A → Type 0) (d : (x : A) → Decides (p x) (P x)) (xs : List A)
    → Decides (every p xs) (Each P xs)
decides_every p P d [] = (λ e x i. absurd i, λ e. refl)
decides_every p P d (x ∷ xs) =
    Decides-like (p x && every p xs)
    (λ b y i. elim i [ inl e ↦ subst P (sym e) b.0 | inr j ↦ b.1 y j ])
    (λ f. (f x (inl refl), λ y j. f y (inr j)))
    (Decides-and (p x) (every p xs) (d x) (decides_every p P d xs))

-- a test that decides whether an element is t decides whether t stands in the list
pub decides_in : {A : Type 0} (t : A) (p : A → Bool) (d : (x : A) → Decides (p x) (t ≡ x)) (xs : List A) → Decides (some p xs) (In t xs)
decides_in t p d [] = decides_false (λ i. i)
decides_in t p d (x ∷ xs) = Decides-or (p x) (some p xs) (d x) (decides_in t p d xs)

pub variable_decided : (v : ℕ) (t : Term) → Decides (is_variable? v t) (Variable v ≡ t)
variable_decided v (Constant n) = decides_false (λ e. let z : ◌≡◌ {A = ℕ} 0 1 = cc in omega arith)
variable_decided v (Variable n) = Decides-like (eqb n v) (λ e. ap Variable (sym e)) (λ e. cc) (Decides-eqb n v)
variable_decided v (Null n) = decides_false (λ e. let z : ◌≡◌ {A = ℕ} 0 1 = cc in omega arith)

pub has_decided : (v : ℕ) (a : Formula) → Decides (has? v a) (In (Variable v) a.terms)
has_decided v a = decides_in (Variable v) (is_variable? v) (variable_decided v) a.terms

-- the variable stands in some formula
pub stands_decided : (v : ℕ) (fs : List Formula) → Decides (some (has? v) fs) (In (Variable v) (terms_of fs))
stands_decided v [] = decides_false (λ i. i)
stands_decided v (a ∷ fs) =
    Decides-like (has? v a || some (has? v) fs)
    (⊎_elim (in_left (Variable v) a.terms (terms_of fs)) (in_right (Variable v) a.terms (terms_of fs)))
    (in_either (Variable v) a.terms (terms_of fs))
    (Decides-or (has? v a) (some (has? v) fs) (has_decided v a) (stands_decided v fs))

pub some_has_decided : (v : ℕ) (atoms : List Atom) → Decides (some (has? v) (map formula_of atoms)) (In (Variable v) (terms_of (map formula_of atoms)))
some_has_decided v atoms = stands_decided v (map formula_of atoms)

pub existential_decided : (r : Implication) (v : ℕ) → Decides (existential? r v) (Existential r v)
existential_decided r v =
    Decides-and (some (has? v) r.head) _ (stands_decided v r.head)
    (Decides-not (some (has? v) r.body) (stands_decided v r.body))
