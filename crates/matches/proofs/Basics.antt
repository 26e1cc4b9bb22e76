-- What stands in a list that is mapped or put together, and tests of lists that decide.
-- Assumes nothing.
use Rattle.std.proofs.Common.{◌≡◌, ℕ, suc, ◌<◌, Bool, true, false, ◌&&◌, ◌||◌, ◌⊎◌, List, [], ◌∷◌, map, length, get_or, Decides, sym, refl, ap, subst, inl, inr, ⊎_elim, arith}
use Rattle.std.proofs.lemmas.Bool.Decides.{Decides-or, Decides-like}
use Rattle.std.proofs.lemmas.Bool.{false≢true}
use Rattle.rules.specs.declared.Term.{Term}
use Rattle.rules.specs.declared.Term.TheVariants.{Constant, Variable, Null}
use Rattle.rules.specs.Logic.{In, Each, Formula, terms_of}
use Rattle.rules.specs.Bounds.{some}
use Rattle.rules.specs.Matches.{Assignment, value, under, Stands}
use Rattle.rules.specs.Same.{same_formula?}
use Rattle.rules.proofs.Alike.{same_term_decided, same_formula_decided}
use Rattle.rules.proofs.Membership.{in_left, in_right, in_either, decides_false, decides_in}
use Rattle.matches.specs.Matching.{same, stands, stands_in, holds}

-- `elim` computes one case only, and `&&` both sides
pub and_lazy : (b c : Bool) → ◌≡◌ {A = Bool} (elim b [ true ↦ c | false ↦ false ]) (b && c)
and_lazy true c = refl
and_lazy false c = refl

pub in_map : {A B : Type 0} (f : A → B) (x : A) (xs : List A) → In x xs → In (f x) (map f xs)
in_map f x [] i = i
in_map f x (y ∷ ys) (inl e) = inl (ap f e)
in_map f x (y ∷ ys) (inr i) = inr (in_map f x ys i)

pub from_map : {A B : Type 0} (f : A → B) (y : B) (xs : List A) → In y (map f xs) → (x : A) × In x xs × (y ≡ f x)
from_map f y [] i = absurd i
from_map f y (x ∷ xs) (inl e) = (x, inl refl, e)
from_map f y (x ∷ xs) (inr i) = let r = from_map f y xs i in (r.0, inr r.1, r.2)

-- what holds at each index holds of each element
pub each_index : {A : Type 0} (P : A → Type 0) (d : A) (xs : List A) → ((k : ℕ) → k < length xs → P (get_or xs k d)) → Each P xs
each_index P d [] f x i = absurd i
each_index P d (y ∷ ys) f x (inl e) = subst P (sym e) (f 0 (omega arith))
each_index P d (y ∷ ys) f x (inr i) = each_index P d ys (λ k l. f (suc k) (omega arith)) x i

pub in_terms : (t : Term) (a : Formula) (xs : List Formula) → In a xs → In t a.terms → Stands t xs
in_terms t a [] i j = absurd i
in_terms t a (b ∷ bs) (inl e) j = in_left t b.terms (terms_of bs) (subst (λ c. In t c.terms) e j)
in_terms t a (b ∷ bs) (inr i) j = in_right t b.terms (terms_of bs) (in_terms t a bs i j)

pub from_terms : (t : Term) (xs : List Formula) → Stands t xs → (a : Formula) × In a xs × In t a.terms
from_terms t [] i = absurd i
from_terms t (b ∷ bs) i =
    ⊎_elim (λ j. (b, inl refl, j)) (λ j. let r = from_terms t bs j in (r.0, inr r.1, r.2))
    (in_either t b.terms (terms_of bs) i)

pub decides_some : {A : Type 0} (p : A → Bool) (P : A → Type 0) (d : (x : A) → Decides (p x) (P x)) (xs : List A)
    → Decides (some p xs) ((x : A) × In x xs × P x)
decides_some p P d [] = decides_false (λ s. s.1)
decides_some {A} p P d (x ∷ xs) =
    Decides-like (p x || some p xs)
    (⊎_elim (λ q. (x, inl refl, q)) (λ s. (s.0, inr s.1, s.2)))
    there
    (Decides-or (p x) (some p xs) (d x) (decides_some p P d xs))
  where
    there : (y : A) × In y (x ∷ xs) × P y → P x ⊎ ((y : A) × In y xs × P y)
    there s = elim s.1 [ inl e ↦ inl (subst P e s.2) | inr j ↦ inr (s.0, j, s.2) ]

pub decides_same : (s t : Term) → Decides (same s t) (s ≡ t)
decides_same = same_term_decided

pub heads_same : {A : Type 0} {x y : A} {xs ys : List A} → x ∷ xs ≡ y ∷ ys → x ≡ y
heads_same e = cc

pub tails_same : {A : Type 0} {x y : A} {xs ys : List A} → x ∷ xs ≡ y ∷ ys → xs ≡ ys
tails_same e = cc

pub nil-cons : {A : Type 0} {x : A} {xs : List A} → [] ≡ x ∷ xs → ⊥
nil-cons e = let z : ◌≡◌ {A = ℕ} 0 1 = cc in omega arith

pub cons_path : {A : Type 0} {x y : A} {xs ys : List A} → x ≡ y → xs ≡ ys → x ∷ xs ≡ y ∷ ys
cons_path e f = λ i. e i ∷ f i

pub formula_path : {a b : Formula} → a.predicate ≡ b.predicate → a.terms ≡ b.terms → a ≡ b
formula_path e f = λ i. record { predicate = e i; terms = f i }

pub decides_stands : (t : Term) (ts : List Term) → Decides (stands t ts) (In t ts)
decides_stands t ts = decides_in t (same t) (decides_same t) ts

pub decides_holds : (a : Formula) (F : List Formula) → Decides (holds a F) (In a F)
decides_holds a F = decides_in a (λ b. same_formula? b a) (λ b. Decides-like (same_formula? b a) sym sym (same_formula_decided b a)) F

pub decides_stands_in : (t : Term) (F : List Formula) → Decides (stands_in t F) (Stands t F)
decides_stands_in t F =
    Decides-like (stands_in t F) (λ s. in_terms t s.0 F s.1 s.2) (from_terms t F)
    (decides_some (λ a. stands t a.terms) (λ a. In t a.terms) (λ a. decides_stands t a.terms) F)

-- what is decided holds or not
pub either : {P : Type 0} (b : Bool) → Decides b P → P ⊎ (P → ⊥)
either true d = inl (d.0 refl)
either false d = inr (λ p. false≢true (d.1 p))

pub map_same : {A B : Type 0} (f g : A → B) (xs : List A) → ((x : A) → In x xs → f x ≡ g x) → map f xs ≡ map g xs
map_same f g [] e = refl
map_same f g (x ∷ xs) e = cons_path (e x (inl refl)) (map_same f g xs (λ y i. e y (inr i)))

pub value_same : (h k : Assignment) (t : Term) → ((v : ℕ) → Variable v ≡ t → h v ≡ k v) → value h t ≡ value k t
value_same h k (Constant c) e = refl
value_same h k (Variable v) e = e v refl
value_same h k (Null n) e = refl

pub under_same : (h k : Assignment) (a : Formula) → ((v : ℕ) → In (Variable v) a.terms → h v ≡ k v) → under h a ≡ under k a
under_same h k a e =
    formula_path refl
    (map_same (value h) (value k) a.terms (λ t i. value_same h k t (λ v q. e v (subst (λ u. In u a.terms) (sym q) i))))
