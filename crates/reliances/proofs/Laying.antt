-- What lists hold that atoms are added to, part after part, and what these mean.
-- Assumes nothing.
use Rattle.std.proofs.Common.{◌≡◌, List, [], ◌∷◌, ◌++◌, length, map, take, refl, ap, ◌∙◌, subst}
use Rattle.std.proofs.lemmas.List.{append_assoc}
use Rattle.rules.specs.declared.Term.{Term}
use Rattle.rules.specs.declared.Atom.{Atom}
use Rattle.rules.specs.Logic.{Formula, formula_of}
use Rattle.rules.specs.Matches.{Assignment, under}
use Rattle.matches.specs.Lists.{look, formulas, under_atom}
use Rattle.matches.proofs.Steps.{of_under}

-- the part that was laid first
pub take_first : {X : Type 0} (xs ys : List X) → take (length xs) (xs ++ ys) ≡ xs
take_first [] [] = refl
take_first [] (y ∷ ys) = refl
take_first (x ∷ xs) ys = ap (λ z. x ∷ z) (take_first xs ys)

-- what atoms under h mean
pub all_under : (h : Assignment) (xs : List Atom) → formulas (map (under_atom h) xs) ≡ map (under h) (formulas xs)
all_under h [] = refl
all_under h (x ∷ xs) = ap (λ z. z ∷ formulas (map (under_atom h) xs)) (of_under h x) ∙ ap (λ z. under h (formula_of x) ∷ z) (all_under h xs)

-- what is said of an assignment and of facts is said of the same ones
pub along : (P : Assignment → List Formula → Type 0) (h k : List Term) (F G : List Formula) → h ≡ k → F ≡ G → P (look h) F → P (look k) G
along P h k F G q e s = subst (P (look k)) e (subst (λ z. P (look z) F) q s)

module _ {X : Type 0} (none one : List X) (f : X → X) (xs : List X) (empty : none ≡ []) (p : one ≡ none ++ map f xs) where
  pub laid_one : one ≡ map f xs
  laid_one = p ∙ ap (λ z. z ++ map f xs) empty

  module _ (two : List X) (g : X → X) (ys : List X) (q : two ≡ one ++ map g ys) where
    pub laid_two : two ≡ map f xs ++ map g ys
    laid_two = q ∙ ap (λ z. z ++ map g ys) laid_one

    pub laid_four : (three four : List X) (h k : X → X) (zs ws : List X) → three ≡ two ++ map h zs → four ≡ three ++ map k ws
        → four ≡ (map f xs ++ map g ys) ++ (map h zs ++ map k ws)
    laid_four three four h k zs ws r s =
        s ∙ ap (λ z. z ++ map k ws) (r ∙ ap (λ z. z ++ map h zs) laid_two) ∙ append_assoc (map f xs ++ map g ys) (map h zs) (map k ws)
