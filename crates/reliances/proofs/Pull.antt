-- What holds of actual facts is pulled back to symbolic ones along the map from symbolic terms to actual values.
-- Assumes nothing.
use Rattle.std.proofs.Common.{◌≡◌, ℕ, ◌≤◌, List, [], ◌∷◌, ◌++◌, map, length, sym, refl, ap, ◌∙◌, subst, inl, inr, ⊎_elim}
use Rattle.std.proofs.lemmas.List.{length-map}
use Rattle.rules.specs.declared.Term.{Term}
use Rattle.rules.specs.declared.Term.TheVariants.{Constant, Variable, Null}
use Rattle.rules.specs.Logic.{In, Each, Formula, Implication, Universal}
use Rattle.rules.specs.Matches.{Assignment, value, under, Stands, Ground, Facts, Match, Satisfied}
use Rattle.rules.proofs.Membership.{in_either}
use Rattle.matches.proofs.Basics.{in_map, from_map, in_terms, from_terms, cons_path, formula_path, under_same}
use Rattle.matches.proofs.Bounded.{Within}
use Rattle.reliances.specs.Following.{hat}

abbrev pub lift : (ℕ → Term) → Formula → Formula
lift θ a = record { predicate = a.predicate; terms = map (hat θ) a.terms }

-- each atom of C has its actual atom in F
abbrev pub Into : (ℕ → Term) → List Formula → List Formula → Type 0
Into θ C F = Each (λ x. In (lift θ x) F) C

lift_args : (θ : ℕ → Term) (k : Assignment) (ts : List Term) → Each Within ts
    → map (hat θ) (map (value k) ts) ≡ map (value (λ v. hat θ (k v))) ts
lift_args θ k [] w = refl
lift_args θ k (Constant c ∷ ts) w = cons_path refl (lift_args θ k ts (λ t i. w t (inr i)))
lift_args θ k (Variable v ∷ ts) w = cons_path refl (lift_args θ k ts (λ t i. w t (inr i)))
lift_args θ k (Null n ∷ ts) w = absurd (w (Null n) (inl refl))

pub lift_under : (θ : ℕ → Term) (k : Assignment) (a : Formula) → Each Within a.terms → lift θ (under k a) ≡ under (λ v. hat θ (k v)) a
lift_under θ k a w = formula_path refl (lift_args θ k a.terms w)

-- where the actual values of h are those of g at the atom's variables
pub lift_to : (θ : ℕ → Term) (h g : Assignment) (a : Formula) → Each Within a.terms → ((v : ℕ) → In (Variable v) a.terms → hat θ (h v) ≡ g v)
    → lift θ (under h a) ≡ under g a
lift_to θ h g a w e = lift_under θ h a w ∙ under_same (λ v. hat θ (h v)) g a e

pub stands_lifts : (θ : ℕ → Term) (C F : List Formula) → Into θ C F → (t : Term) → Stands t C → Stands (hat θ t) F
stands_lifts θ C F m t i =
    let r = from_terms t C i in
    in_terms (hat θ t) (lift θ r.0) F (m r.0 r.1) (in_map (hat θ) t r.0.terms r.2)

ground_back : (θ : ℕ → Term) (t : Term) → Ground (hat θ t) → Ground t
ground_back θ (Constant c) g = tt
ground_back θ (Variable v) g = g
ground_back θ (Null n) g = tt

-- symbolic atoms whose actual ones are facts are facts
pub facts_back : (θ : ℕ → Term) (C F : List Formula) → Into θ C F → Facts F → Facts C
facts_back θ C F m f x i =
    let z = f (lift θ x) (m x i) in
    let same_length : length (map (hat θ) x.terms) ≡ length x.terms = length-map x.terms (hat θ) in
    record {
      some = subst (λ n. 1 ≤ n) same_length z.some;
      few = subst (λ n. n ≤ 4) same_length z.few;
      ground = λ t j. ground_back θ t (z.ground (hat θ t) (in_map (hat θ) t x.terms j));
    }

pub match_lifts : (θ : ℕ → Term) (C F : List Formula) → Into θ C F → (R : Implication) (h g : Assignment)
    → Each (λ a. lift θ (under h a) ≡ under g a) R.body → Match R h C → Match R g F
match_lifts θ C F m R h g e s a i = subst (λ x. In x F) (e a i) (m (under h a) (s a i))

pub satisfied_lifts : (θ : ℕ → Term) (C F : List Formula) → Into θ C F → (R : Implication) (h g : Assignment) → Each (λ a. Each Within a.terms) R.head
    → ((v : ℕ) → Universal R v → hat θ (h v) ≡ g v) → Satisfied R h C → Satisfied R g F
satisfied_lifts θ C F m R h g w e s = record {
  extension = λ v. hat θ (s.extension v);
  agrees = λ v u. ap (hat θ) (s.agrees v u) ∙ e v u;
  present = λ a i. subst (λ x. In x F) (lift_under θ s.extension a (w a i)) (m (under s.extension a) (s.present a i));
}

pub into_map : (θ : ℕ → Term) (h g : Assignment) (bs F : List Formula) → Each (λ a. lift θ (under h a) ≡ under g a) bs
    → Each (λ a. In (under g a) F) bs → Into θ (map (under h) bs) F
into_map θ h g bs F e f x i =
    let r = from_map (under h) x bs i in
    subst (λ y. In y F) (sym (ap (lift θ) r.2 ∙ e r.0 r.1)) (f r.0 r.1)

pub into_both : (θ : ℕ → Term) (C D F : List Formula) → Into θ C F → Into θ D F → Into θ (C ++ D) F
into_both θ C D F c d x i = ⊎_elim (c x) (d x) (in_either x C D i)

pub into_more : (θ : ℕ → Term) (C F G : List Formula) → Into θ C F → Each (λ x. In x G) F → Into θ C G
into_more θ C F G c g x i = g (lift θ x) (c x i)
