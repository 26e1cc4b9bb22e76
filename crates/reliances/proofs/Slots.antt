-- What the slots of a substitution hold, and the facts that they make.
-- Assumes nothing.
use Rattle.std.proofs.Common.{◌≡◌, ℕ, zero, suc, ◌+◌, ◌<◌, ◌≤◌, false, List, [], ◌∷◌, ◌++◌, map, length, drop, Decides, sym, ap, ◌∙◌, subst, ⊎_elim, arith}
use Rattle.std.proofs.lemmas.List.{get_or-take, get_or-drop, get_or_past, length-map, length-take}
use Rattle.std.proofs.lemmas.Bool.{cases_lt}
use Rattle.std.proofs.lemmas.Bool.Decides.{Decides-eqb, not_from_Decides}
use Rattle.rules.specs.declared.Term.{Term}
use Rattle.rules.specs.declared.Term.TheVariants.{Constant, Variable, Null}
use Rattle.rules.specs.Logic.{In, Each, Formula, Implication, Existential}
use Rattle.rules.specs.Bounds.{some}
use Rattle.rules.specs.Matches.{Assignment, value, under, Ground, IsFact, Facts}
use Rattle.rules.proofs.Membership.{in_either, existential_decided}
use Rattle.matches.specs.Lists.{look, Sized}
use Rattle.matches.proofs.Basics.{from_map, decides_some}
use Rattle.matches.proofs.Bounded.{Within}
use Rattle.reliances.specs.Unification.{Subst, numbered, start, part, wide, rigid?, of?, shares?}
use Rattle.reliances.proofs.Unify.{AllGround}

pub decides_rigid : (r : Implication) (v : ℕ) → Decides (rigid? r v) (Existential r v)
decides_rigid r v = existential_decided r v

pub look_numbered : (k n i : ℕ) → i < n → look (numbered k n) i ≡ Null (k + i)
look_numbered k zero i l = absurd (omega arith)
look_numbered k (suc n) zero l = ap Null (let e : k ≡ k + 0 = omega arith in e)
look_numbered k (suc n) (suc i) l = look_numbered (suc k) n i (omega arith) ∙ ap Null (let e : suc k + i ≡ k + suc i = omega arith in e)

pub look_start : (i : ℕ) → i < 36 → look start i ≡ Null i
look_start i l = look_numbered 0 36 i l ∙ ap Null (let e : 0 + i ≡ i = omega arith in e)

pub start_ground : AllGround start
start_ground i =
    ⊎_elim (λ l. subst Ground (sym (look_start i l)) tt) (λ l. subst Ground (sym (get_or_past start i (Constant 0) l)) tt)
    (cases_lt i 36)

pub look_part : (σ : Subst) (off v : ℕ) → v < 12 → look (part σ off) v ≡ look σ (off + v)
look_part σ off v l = get_or-take 12 (drop off σ) v (Constant 0) l ∙ get_or-drop off σ v (Constant 0)

pub look_wide : (σ : Subst) (u : ℕ) → u < 24 → look (wide σ) u ≡ look σ (12 + u)
look_wide σ u l = get_or-take 24 (drop 12 σ) u (Constant 0) l ∙ get_or-drop 12 σ u (Constant 0)

-- what a part gives the terms of a rule is ground
pub part_ground : (σ : Subst) → AllGround σ → (off : ℕ) (t : Term) → Within t → Ground (value (look (part σ off)) t)
part_ground σ g off (Constant c) w = tt
part_ground σ g off (Variable v) w = subst Ground (sym (look_part σ off v w)) (g (off + v))
part_ground σ g off (Null n) w = absurd w

-- whatever twelve slots give is ground
pub look_ground : (σ : Subst) → AllGround σ → (off v : ℕ) → Ground (look (part σ off) v)
look_ground σ g off v =
    ⊎_elim (λ l. subst Ground (sym (look_part σ off v l)) (g (off + v)))
    (λ (l : 12 ≤ v). subst Ground (sym (get_or_past (part σ off) v (Constant 0) (let e : length (part σ off) ≤ 12 = simp length-take (omega arith) in omega arith))) tt)
    (cases_lt v 12)

-- formulas with one to four terms each become facts where each term becomes ground
pub facts_under : (h : Assignment) (Q : Term → Type 0) → ((t : Term) → Q t → Ground (value h t)) → (xs : List Formula)
    → Each (λ a. Each Q a.terms) xs → Each Sized xs → Facts (map (under h) xs)
facts_under h Q ground xs within sized x i = let r = from_map (under h) x xs i in subst IsFact (sym r.2) (at r.0 r.1)
  where
    at : (a : Formula) → In a xs → IsFact (under h a)
    at a j =
        let same_length : length (map (value h) a.terms) ≡ length a.terms = length-map a.terms (value h) in
        record {
          some = subst (λ n. 1 ≤ n) (sym same_length) (sized a j).0;
          few = subst (λ n. n ≤ 4) (sym same_length) (sized a j).1;
          ground = λ t k. let z = from_map (value h) t a.terms k in subst Ground (sym z.2) (ground z.0 (within a j z.0 z.1));
        }

pub facts_both : (C D : List Formula) → Facts C → Facts D → Facts (C ++ D)
facts_both C D c d x i = ⊎_elim (c x) (d x) (in_either x C D i)

-- no formula of bs has the predicate of one of hs
pub unshared : (hs bs : List Formula) → shares? hs bs ≡ false → (a b : Formula) → In a hs → In b bs → a.predicate ≡ b.predicate → ⊥
unshared hs bs e a b i j p =
    not_from_Decides (shares? hs bs)
    (decides_some (λ b. some (of? b.predicate) hs) (λ b. (a : Formula) × In a hs × (a.predicate ≡ b.predicate))
    (λ b. decides_some (of? b.predicate) (λ a. a.predicate ≡ b.predicate) (λ a. Decides-eqb a.predicate b.predicate) hs) bs)
    e (b, j, (a, i, p))

-- one more
pub each_more : {X : Type 0} (P : X → Type 0) (xs : List X) (y : X) → Each P xs → P y → Each P (xs ++ (y ∷ []))
each_more P xs y f p x i = ⊎_elim (λ j. f x j) (λ j. ⊎_elim (λ e. subst P (sym e) p) (λ k. absurd k) j) (in_either x xs (y ∷ []) i)
