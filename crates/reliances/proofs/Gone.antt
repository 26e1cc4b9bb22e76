-- The atoms that a search for a restraint goes through, as they are picked one after the other.
-- Assumes nothing.
use Rattle.std.proofs.Common.{◌≡◌, ℕ, ◌+◌, ◌<◌, ◌≤◌, ◌%◌, ◌==◌, Bool, true, false, cond, ◌&&◌, ◌||◌, List, [], ◌∷◌, ◌++◌, length, get_or, take, sym, refl, ap, ◌∙◌, arith}
use Rattle.std.proofs.lemmas.List.{map-append, length-map, length-take, take_more}
use Rattle.std.specs.List.{filter}
use Rattle.rules.specs.declared.Atom.{Atom}
use Rattle.rules.specs.Logic.{Formula, Implication, formula_of}
use Rattle.std.proofs.lemmas.Bool.{eqb-true}
use Rattle.std.proofs.lemmas.Bool.Decides.{Decides-eqb, Decides-and}
use Rattle.rules.specs.Bounds.{some, near?}
use Rattle.rules.proofs.Mapped.{some_map}
use Rattle.rules.proofs.Marking.{some_from, some_in, some_less}
use Rattle.matches.specs.Lists.{formulas}
use Rattle.reliances.proofs.Nodes.{no_atom}
use Rattle.reliances.proofs.SearchSteps.{few_open}
use Rattle.reliances.specs.Unification.{shift_formula, of?, shares?}
use Rattle.reliances.specs.RestraintSearch.{opens?, shifted}

-- a filtered list, and one more at its end
module _ {X : Type 0} (p : X → Bool) where
  module _ (x : X) where
    picked_in : (xs : List X) → p x ≡ true → filter p (xs ++ (x ∷ [])) ≡ filter p xs ++ (x ∷ [])
    picked_in [] e = ap (λ c. cond c (x ∷ []) []) e
    picked_in (y ∷ ys) e = at (p y) (picked_in ys e)
      where
        at : (c : Bool) → filter p (ys ++ (x ∷ [])) ≡ filter p ys ++ (x ∷ [])
            → cond c (y ∷ filter p (ys ++ (x ∷ []))) (filter p (ys ++ (x ∷ []))) ≡ cond c (y ∷ filter p ys) (filter p ys) ++ (x ∷ [])
        at true q = ap (λ z. y ∷ z) q
        at false q = q

    picked_out : (xs : List X) → p x ≡ false → filter p (xs ++ (x ∷ [])) ≡ filter p xs
    picked_out [] e = ap (λ c. cond c (x ∷ []) []) e
    picked_out (y ∷ ys) e =
        λ i. cond (p y) (y ∷ picked_out ys e i) (picked_out ys e i)

  -- a test of what passes another
  pub some_picked : (q : X → Bool) (xs : List X) → some q (filter p xs) ≡ some (λ x. q x && p x) xs
  some_picked q [] = refl
  some_picked q (x ∷ xs) = at (p x) (q x) refl (some_picked q xs)
    where
      at : (c d : Bool) → q x ≡ d → some q (filter p xs) ≡ some (λ y. q y && p y) xs → some q (cond c (x ∷ filter p xs) (filter p xs)) ≡ ((d && c) || some (λ y. q y && p y) xs)
      at true true e r = ap (λ b. b || some q (filter p xs)) e
      at true false e r = ap (λ b. b || some q (filter p xs)) e ∙ r
      at false true e r = r
      at false false e r = r

-- whether A's head has the predicate of an atom that is gone through
pub shares_open : (heads : List Formula) (B : Implication) → some (λ b. some (of? b.predicate) heads && opens? B b) B.head ≡ shares? heads (shifted B)
shares_open heads B =
    let shared = λ (b : Formula). some (of? b.predicate) heads in
    sym (some_map (shift_formula B) shared (filter (opens? B) B.head) ∙ some_picked (opens? B) shared B.head)

-- predicates that are the same have the same remainder
meets : (hs : List Formula) (b : Formula) → some (of? b.predicate) hs ≡ true → some (λ a. a.predicate % 64 == b.predicate % 64) hs ≡ true
meets hs b t =
    let r = some_from (of? b.predicate) hs t in
    some_in (λ a. a.predicate % 64 == b.predicate % 64) r.0 hs r.1
    ((Decides-eqb (r.0.predicate % 64) (b.predicate % 64)).1 (ap (λ n. n % 64) (eqb-true r.0.predicate b.predicate r.2)))

-- where no remainders are the same, no predicate is shared
module _ (hs bs : List Formula) (apart : near? hs bs ≡ false) where
  pub none_shared : shares? hs bs ≡ false
  none_shared = some_less (λ b. some (of? b.predicate) hs) (λ b. some (λ a. a.predicate % 64 == b.predicate % 64) hs) (meets hs) bs apart

pub none_open : (heads : List Formula) (B : Implication) → near? heads B.head ≡ false → shares? heads (shifted B) ≡ false
none_open heads B apart =
    sym (shares_open heads B)
    ∙ some_less (λ b. some (of? b.predicate) heads && opens? B b) (λ b. some (λ a. a.predicate % 64 == b.predicate % 64) heads)
    (λ b t. meets heads b ((Decides-and (some (of? b.predicate) heads) (opens? B b) (λ e. e, λ e. e) (λ e. e, λ e. e)).0 t).0) B.head apart

-- one atom more was looked at
module _ (p : Formula → Bool) (xs kept : List Atom) (i : ℕ) (below : i < length xs) (so_far : formulas kept ≡ filter p (formulas (take i xs))) where
  abbrev next : Atom
  next = get_or xs i no_atom

  one_more : formulas (take (i + 1) xs) ≡ formulas (take i xs) ++ (formula_of next ∷ [])
  one_more = ap formulas (take_more xs i no_atom below) ∙ map-append formula_of (take i xs) (next ∷ [])

  pub kept_more : (more : List Atom) → more ≡ kept ++ (next ∷ []) → p (formula_of next) ≡ true → formulas more ≡ filter p (formulas (take (i + 1) xs))
  kept_more more m e =
      ap formulas m ∙ map-append formula_of kept (next ∷ []) ∙ ap (λ z. z ++ (formula_of next ∷ [])) so_far
      ∙ sym (ap (filter p) one_more ∙ picked_in p (formula_of next) (formulas (take i xs)) e)

  pub kept_same : p (formula_of next) ≡ false → formulas kept ≡ filter p (formulas (take (i + 1) xs))
  kept_same e = so_far ∙ sym (ap (filter p) one_more ∙ picked_out p (formula_of next) (formulas (take i xs)) e)

  pub kept_few : length kept < length xs
  kept_few =
      let l : length kept ≡ length (filter p (formulas (take i xs))) = sym (length-map kept formula_of) ∙ ap length so_far in
      let few = few_open p (formulas (take i xs)) in
      let m : length (formulas (take i xs)) ≤ i = simp (length-map, length-take) (omega arith) in
      omega (arith, l, few, m, below)
