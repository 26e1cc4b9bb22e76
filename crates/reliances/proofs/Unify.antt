-- Unification follows an actual witness θ: it cannot fail where θ makes both sides equal, and θ respects its result.
-- What it gives makes both sides equal, whether there is a witness or not.
-- Assumes nothing.
use Rattle.std.proofs.Common.{◌≡◌, ℕ, ◌+◌, ◌<◌, ◌≤◌, Bool, true, false, eqb, ◌⊎◌, List, [], ◌∷◌, map, length, Option, Some, None, sym, refl, ap, ◌∙◌, subst, inl, inr, ⊎_elim, arith}
use Rattle.std.proofs.lemmas.List.{get_or-map, get_or_past, length-map}
use Rattle.std.proofs.lemmas.Option.{none-some}
use Rattle.std.specs.Option.{option_and_then}
use Rattle.std.proofs.lemmas.Bool.{false≢true, both_ways, not-true, not-false, eq-eqb, eqb-true, cases_Bool, cases_lt, cond-true, cond-false}
use Rattle.rules.specs.declared.Term.{Term}
use Rattle.rules.specs.declared.Term.TheVariants.{Constant, Variable, Null}
use Rattle.rules.specs.Logic.{Each, Formula}
use Rattle.rules.specs.Matches.{value, under, Ground, IsNull}
use Rattle.matches.specs.Lists.{look}
use Rattle.matches.specs.Matching.{same}
use Rattle.matches.proofs.Basics.{decides_same, either, heads_same, tails_same, nil-cons, cons_path, formula_path}
use Rattle.matches.proofs.Bounded.{Within}
use Rattle.reliances.specs.Following.{hat, slot, Good}
use Rattle.reliances.specs.Unification.{Subst, through, replaced, flexible, unify, unify_all, unify_formulas}

-- a term that is read by slots from an offset up to 12 on
abbrev pub Slotted : Term → Type 0
Slotted (Constant c) = Unit {0}
Slotted (Variable v) = v < 24
Slotted (Null n) = ⊥

pub slotted : (t : Term) → Within t → Slotted t
slotted (Constant c) w = tt
slotted (Variable v) w = let l : v < 12 = w in omega arith
slotted (Null n) w = w

-- θ gives rigid slots nulls, apart from one another
pub record Solid (θ : ℕ → Term) (rigid : ℕ → Bool) : Type 0 where
  pub nulls : (r : ℕ) → rigid r ≡ true → IsNull (θ r)
  pub apart : (r q : ℕ) → rigid r ≡ true → rigid q ≡ true → θ r ≡ θ q → r ≡ q

pub record Refines (σ τ : Subst) : Type 0 where
  pub by : Term → Term
  pub constants : (c : ℕ) → by (Constant c) ≡ Constant c
  pub steps : (i : ℕ) → look τ i ≡ by (look σ i)

pub refines_self : (σ : Subst) → Refines σ σ
refines_self σ = record { by = λ t. t; constants = λ c. refl; steps = λ i. refl }

pub refines_more : (ρ σ τ : Subst) → Refines ρ σ → Refines σ τ → Refines ρ τ
refines_more ρ σ τ f g = record {
  by = λ t. g.by (f.by t);
  constants = λ c. ap g.by (f.constants c) ∙ g.constants c;
  steps = λ i. g.steps i ∙ ap g.by (f.steps i);
}

pub refined_value : (σ τ : Subst) (r : Refines σ τ) (m : ℕ) (t : Term) → Slotted t → value (through τ m) t ≡ r.by (value (through σ m) t)
refined_value σ τ r m (Constant c) w = sym (r.constants c)
refined_value σ τ r m (Variable v) w = r.steps (m + v)
refined_value σ τ r m (Null n) w = absurd w

still_same : (σ τ : Subst) (r : Refines σ τ) (m n : ℕ) (ss ts : List Term) → Each Slotted ss → Each Slotted ts
    → map (value (through σ m)) ss ≡ map (value (through σ n)) ts → map (value (through τ m)) ss ≡ map (value (through τ n)) ts
still_same σ τ r m n [] [] u w e = refl
still_same σ τ r m n [] (t ∷ ts) u w e = absurd (nil-cons e)
still_same σ τ r m n (s ∷ ss) [] u w e = absurd (nil-cons (sym e))
still_same σ τ r m n (s ∷ ss) (t ∷ ts) u w e =
    cons_path
    (refined_value σ τ r m s (u s (inl refl)) ∙ ap r.by (heads_same e) ∙ sym (refined_value σ τ r n t (w t (inl refl))))
    (still_same σ τ r m n ss ts (λ x i. u x (inr i)) (λ x i. w x (inr i)) (tails_same e))

pub replaced_is : (s t x : Term) → x ≡ s → replaced s t x ≡ t
replaced_is s t x e = cond-true (same x s) t x ((decides_same x s).1 e)

pub replaced_not : (s t x : Term) → (x ≡ s → ⊥) → replaced s t x ≡ x
replaced_not s t x n = ⊎_elim (λ e. absurd (n ((decides_same x s).0 e))) (λ e. cond-false (same x s) t x e) (cases_Bool (same x s))

-- a branch that is taken
pub elim_true : {A : Type 0} (b : Bool) (x y : A) → b ≡ true → ◌≡◌ {A = A} (elim b [ true ↦ x | false ↦ y ]) x
elim_true true x y e = refl
elim_true false x y e = absurd (false≢true e)

pub elim_false : {A : Type 0} (b : Bool) (x y : A) → b ≡ false → ◌≡◌ {A = A} (elim b [ true ↦ x | false ↦ y ]) y
elim_false true x y e = absurd (both_ways true e refl)
elim_false false x y e = refl

-- the value that is there
pub some_same : {A : Type 0} {x y : A} → Some x ≡ Some y → x ≡ y
some_same e = cc

replaced_both : (s t : Term) → replaced s t s ≡ replaced s t t
replaced_both s t = replaced_is s t s refl ∙ ⊎_elim (λ e. sym (replaced_is s t t e)) (λ n. sym (replaced_not s t t n)) (either (same t s) (decides_same t s))

pub is_flexible : (rigid : ℕ → Bool) (s : Term) → flexible rigid s ≡ true → (r : ℕ) × (s ≡ Null r) × (rigid r ≡ false)
is_flexible rigid (Constant c) e = absurd (false≢true e)
is_flexible rigid (Variable v) e = absurd (false≢true e)
is_flexible rigid (Null r) e = (r, refl, not-true (rigid r) e)

flexible_not : (rigid : ℕ → Bool) (s t : Term) (c : ℕ) → flexible rigid s ≡ true → replaced s t (Constant c) ≡ Constant c
flexible_not rigid s t c f =
    let z = is_flexible rigid s f in
    replaced_not s t (Constant c) (λ q. let y : ◌≡◌ {A = ℕ} 0 1 = cc (q, z.1) in omega arith)

pub look_replaced : (rigid : ℕ → Bool) (s t : Term) (σ : Subst) (i : ℕ) → flexible rigid s ≡ true → look (map (replaced s t) σ) i ≡ replaced s t (look σ i)
look_replaced rigid s t σ i f =
    ⊎_elim
    (λ (l : i < length σ). get_or-map (replaced s t) σ i (Constant 0) (Constant 0) l)
    (λ (l : length σ ≤ i).
    get_or_past (map (replaced s t) σ) i (Constant 0) (simp length-map l) ∙ sym (flexible_not rigid s t 0 f) ∙ ap (replaced s t) (sym (get_or_past σ i (Constant 0) l)))
    (cases_lt i (length σ))

-- what unification comes to where it follows θ
pub record Unified (θ : ℕ → Term) (rigid : ℕ → Bool) (o : Option Subst) : Type 0 where
  pub to : Subst
  pub gives : o ≡ Some to
  pub good : Good θ rigid to

module _ (θ : ℕ → Term) (rigid : ℕ → Bool) where
  hat_replaced : (s t x : Term) → hat θ s ≡ hat θ t → hat θ (replaced s t x) ≡ hat θ x
  hat_replaced s t x e =
      ⊎_elim (λ q. ap (hat θ) (replaced_is s t x q) ∙ sym e ∙ sym (ap (hat θ) q)) (λ n. ap (hat θ) (replaced_not s t x n))
      (either (same x s) (decides_same x s))

  pub good_replaced : (σ : Subst) (s t : Term) → Good θ rigid σ → flexible rigid s ≡ true → hat θ s ≡ hat θ t → Good θ rigid (map (replaced s t) σ)
  good_replaced σ s t g f e = record {
    respects = λ i l. ap (hat θ) (look_replaced rigid s t σ i f) ∙ hat_replaced s t (look σ i) e ∙ g.respects i l;
    keeps = λ i h. let z = is_flexible rigid s f in
        look_replaced rigid s t σ i f ∙
        replaced_not s t (look σ i) (λ q.
        let w : i ≡ z.0 = cc (g.keeps i h, q, z.1) in
        both_ways (rigid i) (ap rigid w ∙ z.2) h) ∙ g.keeps i h;
  }

  -- two terms that are not flexible and have one actual value are equal
  firm : (solid : Solid θ rigid) (s t : Term) → flexible rigid s ≡ false → flexible rigid t ≡ false → hat θ s ≡ hat θ t → s ≡ t
  firm solid (Constant a) (Constant b) f g e = e
  firm solid (Constant a) (Variable b) f g e = e
  firm solid (Constant a) (Null b) f g e = absurd (subst IsNull (sym e) (solid.nulls b (not-false (rigid b) g)))
  firm solid (Variable a) (Constant b) f g e = e
  firm solid (Variable a) (Variable b) f g e = e
  firm solid (Variable a) (Null b) f g e = absurd (subst IsNull (sym e) (solid.nulls b (not-false (rigid b) g)))
  firm solid (Null a) (Constant b) f g e = absurd (subst IsNull e (solid.nulls a (not-false (rigid a) f)))
  firm solid (Null a) (Variable b) f g e = absurd (subst IsNull e (solid.nulls a (not-false (rigid a) f)))
  firm solid (Null a) (Null b) f g e = ap Null (solid.apart a b (not-false (rigid a) f) (not-false (rigid b) g) e)

  pub unify_works : (solid : Solid θ rigid) (σ : Subst) (s t : Term) → Good θ rigid σ → hat θ s ≡ hat θ t → Unified θ rigid (unify rigid σ s t)
  unify_works solid σ s t g e = ⊎_elim at_same at_other (cases_Bool (same s t))
    where
      third : Option Subst
      third = elim (flexible rigid t) [ true ↦ Some (map (replaced t s) σ) | false ↦ None ]

      rest : Option Subst
      rest = elim (flexible rigid s) [ true ↦ Some (map (replaced s t) σ) | false ↦ third ]

      at_same : same s t ≡ true → Unified θ rigid (unify rigid σ s t)
      at_same q = record { to = σ; gives = elim_true (same s t) (Some σ) rest q; good = g }

      at_right : same s t ≡ false → flexible rigid s ≡ false → flexible rigid t ≡ true → Unified θ rigid (unify rigid σ s t)
      at_right q f h = record {
        to = map (replaced t s) σ;
        gives = elim_false (same s t) (Some σ) rest q ∙ elim_false (flexible rigid s) (Some (map (replaced s t) σ)) third f
            ∙ elim_true (flexible rigid t) (Some (map (replaced t s) σ)) None h;
        good = good_replaced σ t s g h (sym e);
      }

      at_left : same s t ≡ false → flexible rigid s ≡ true → Unified θ rigid (unify rigid σ s t)
      at_left q f = record {
        to = map (replaced s t) σ;
        gives = elim_false (same s t) (Some σ) rest q ∙ elim_true (flexible rigid s) (Some (map (replaced s t) σ)) third f;
        good = good_replaced σ s t g f e;
      }

      at_other : same s t ≡ false → Unified θ rigid (unify rigid σ s t)
      at_other q =
          ⊎_elim (at_left q)
          (λ f. ⊎_elim (at_right q f)
          (λ h. absurd (both_ways (same s t) q ((decides_same s t).1 (firm solid s t f h e))))
          (cases_Bool (flexible rigid t)))
          (cases_Bool (flexible rigid s))

  pub hat_value : (σ : Subst) → Good θ rigid σ → (m : ℕ) → m ≤ 12 → (t : Term) → Slotted t → hat θ (value (through σ m) t) ≡ value (slot θ m) t
  hat_value σ g m lm (Constant c) w = refl
  hat_value σ g m lm (Variable v) w = g.respects (m + v) (let l : v < 24 = w in omega arith)
  hat_value σ g m lm (Null n) w = absurd w

  pub unify_all_works : (solid : Solid θ rigid) (m n : ℕ) (lm : m ≤ 12) (ln : n ≤ 12) (ss ts : List Term) (σ : Subst) → Each Slotted ss → Each Slotted ts → Good θ rigid σ
      → map (value (slot θ m)) ss ≡ map (value (slot θ n)) ts → Unified θ rigid (unify_all rigid m n ss ts σ)
  unify_all_works solid m n lm ln [] [] σ u w g e = record { to = σ; gives = refl; good = g }
  unify_all_works solid m n lm ln [] (t ∷ ts) σ u w g e = absurd (nil-cons e)
  unify_all_works solid m n lm ln (s ∷ ss) [] σ u w g e = absurd (nil-cons (sym e))
  unify_all_works solid m n lm ln (s ∷ ss) (t ∷ ts) σ u w g e =
      let one = unify_works solid σ (value (through σ m) s) (value (through σ n) t) g
      (hat_value σ g m lm s (u s (inl refl)) ∙ heads_same e ∙ sym (hat_value σ g n ln t (w t (inl refl)))) in
      let more = unify_all_works solid m n lm ln ss ts one.to (λ x i. u x (inr i)) (λ x i. w x (inr i)) one.good (tails_same e) in
      record {
        to = more.to;
        gives = ap (option_and_then (λ τ. unify_all rigid m n ss ts τ)) one.gives ∙ more.gives;
        good = more.good;
      }

  pub unify_formulas_works : (solid : Solid θ rigid) (m n : ℕ) (lm : m ≤ 12) (ln : n ≤ 12) (a b : Formula) (σ : Subst) → Each Slotted a.terms → Each Slotted b.terms → Good θ rigid σ
      → under (slot θ m) a ≡ under (slot θ n) b → Unified θ rigid (unify_formulas rigid m n a b σ)
  unify_formulas_works solid m n lm ln a b σ u w g e =
      let p : a.predicate ≡ b.predicate = ap (λ (x : Formula). x.predicate) e in
      let r = unify_all_works solid m n lm ln a.terms b.terms σ u w g (ap (λ (x : Formula). x.terms) e) in
      record {
        to = r.to;
        gives = elim_true (eqb a.predicate b.predicate) (unify_all rigid m n a.terms b.terms σ) None (eq-eqb a.predicate b.predicate p) ∙ r.gives;
        good = r.good;
      }

abbrev pub AllGround : Subst → Type 0
AllGround σ = (i : ℕ) → Ground (look σ i)

-- rigid slots keep their nulls
abbrev pub KeepsRigid : (ℕ → Bool) → Subst → Type 0
KeepsRigid rigid σ = (i : ℕ) → rigid i ≡ true → look σ i ≡ Null i

-- τ comes from σ by steps of unification
pub record Joins (rigid : ℕ → Bool) (σ τ : Subst) : Type 0 where
  pub long : length τ ≡ length σ
  pub ground : AllGround σ → AllGround τ
  pub keeps : KeepsRigid rigid σ → KeepsRigid rigid τ
  pub refines : Refines σ τ

-- what unification of two terms comes to, with no witness
pub record Joined (rigid : ℕ → Bool) (σ : Subst) (s t : Term) : Type 0 where
  pub to : Subst
  pub gives : unify rigid σ s t ≡ Some to
  pub joins : Joins rigid σ to
  pub equal : joins.refines.by s ≡ joins.refines.by t

module _ (rigid : ℕ → Bool) where
  joins_self : (σ : Subst) → Joins rigid σ σ
  joins_self σ = record { long = refl; ground = λ g. g; keeps = λ k. k; refines = refines_self σ }

  joins_more : (ρ σ τ : Subst) → Joins rigid ρ σ → Joins rigid σ τ → Joins rigid ρ τ
  joins_more ρ σ τ f g = record {
    long = g.long ∙ f.long;
    ground = λ z. g.ground (f.ground z);
    keeps = λ z. g.keeps (f.keeps z);
    refines = refines_more ρ σ τ f.refines g.refines;
  }

  replaced_ground : (s t x : Term) → Ground t → Ground x → Ground (replaced s t x)
  replaced_ground s t x g h =
      ⊎_elim (λ e. subst Ground (sym (replaced_is s t x e)) g) (λ n. subst Ground (sym (replaced_not s t x n)) h)
      (either (same x s) (decides_same x s))

  pub joins_replaced : (σ : Subst) (s t : Term) → flexible rigid s ≡ true → Ground t → Joins rigid σ (map (replaced s t) σ)
  joins_replaced σ s t f g = record {
    long = length-map σ (replaced s t);
    ground = λ z i. subst Ground (sym (look_replaced rigid s t σ i f)) (replaced_ground s t (look σ i) g (z i));
    keeps = λ k i h. let z = is_flexible rigid s f in
        look_replaced rigid s t σ i f ∙
        replaced_not s t (look σ i) (λ q.
        let w : i ≡ z.0 = cc (k i h, q, z.1) in
        both_ways (rigid i) (ap rigid w ∙ z.2) h) ∙ k i h;
    refines = record {
      by = replaced s t;
      constants = λ c. flexible_not rigid s t c f;
      steps = λ i. look_replaced rigid s t σ i f;
    };
  }

  unify_joined : (σ : Subst) (s t : Term) → Ground s → Ground t → (unify rigid σ s t ≡ None) ⊎ Joined rigid σ s t
  unfolding joins_self joins_replaced refines_self
  unify_joined σ s t gs gt = ⊎_elim (λ q. inr (at_same q)) at_other (cases_Bool (same s t))
    where
      third : Option Subst
      third = elim (flexible rigid t) [ true ↦ Some (map (replaced t s) σ) | false ↦ None ]

      rest : Option Subst
      rest = elim (flexible rigid s) [ true ↦ Some (map (replaced s t) σ) | false ↦ third ]

      at_same : same s t ≡ true → Joined rigid σ s t
      at_same q = record {
        to = σ;
        gives = elim_true (same s t) (Some σ) rest q;
        joins = joins_self σ;
        equal = (decides_same s t).0 q;
      }

      at_left : same s t ≡ false → flexible rigid s ≡ true → Joined rigid σ s t
      at_left q f = record {
        to = map (replaced s t) σ;
        gives = elim_false (same s t) (Some σ) rest q ∙ elim_true (flexible rigid s) (Some (map (replaced s t) σ)) third f;
        joins = joins_replaced σ s t f gt;
        equal = replaced_both s t;
      }

      at_right : same s t ≡ false → flexible rigid s ≡ false → flexible rigid t ≡ true → Joined rigid σ s t
      at_right q f h = record {
        to = map (replaced t s) σ;
        gives = elim_false (same s t) (Some σ) rest q ∙ elim_false (flexible rigid s) (Some (map (replaced s t) σ)) third f
            ∙ elim_true (flexible rigid t) (Some (map (replaced t s) σ)) None h;
        joins = joins_replaced σ t s h gs;
        equal = sym (replaced_both t s);
      }

      at_none : same s t ≡ false → flexible rigid s ≡ false → flexible rigid t ≡ false → unify rigid σ s t ≡ None
      at_none q f h =
          elim_false (same s t) (Some σ) rest q ∙ elim_false (flexible rigid s) (Some (map (replaced s t) σ)) third f
          ∙ elim_false (flexible rigid t) (Some (map (replaced t s) σ)) None h

      at_other : same s t ≡ false → (unify rigid σ s t ≡ None) ⊎ Joined rigid σ s t
      at_other q =
          ⊎_elim (λ f. inr (at_left q f))
          (λ f. ⊎_elim (λ h. inr (at_right q f h)) (λ h. inl (at_none q f h)) (cases_Bool (flexible rigid t)))
          (cases_Bool (flexible rigid s))

  value_ground : (σ : Subst) → AllGround σ → (m : ℕ) (t : Term) → Slotted t → Ground (value (through σ m) t)
  value_ground σ g m (Constant c) w = tt
  value_ground σ g m (Variable v) w = g (m + v)
  value_ground σ g m (Null n) w = absurd w

  abbrev Alike : ℕ → ℕ → List Term → List Term → Subst → Type 0
  Alike m n ss ts τ = map (value (through τ m)) ss ≡ map (value (through τ n)) ts

  unify_all_joins : (m n : ℕ) (ss ts : List Term) (σ τ : Subst) → Each Slotted ss → Each Slotted ts → AllGround σ
      → unify_all rigid m n ss ts σ ≡ Some τ → Joins rigid σ τ × Alike m n ss ts τ
  unify_all_joins m n [] [] σ τ u w g e = (subst (Joins rigid σ) (some_same e) (joins_self σ), refl)
  unify_all_joins m n [] (t ∷ ts) σ τ u w g e = absurd (none-some τ e)
  unify_all_joins m n (s ∷ ss) [] σ τ u w g e = absurd (none-some τ e)
  unify_all_joins m n (s ∷ ss) (t ∷ ts) σ τ u w g e =
      ⊎_elim
      (λ q. absurd (none-some τ (sym (ap (option_and_then (λ τ. unify_all rigid m n ss ts τ)) q) ∙ e)))
      (λ one. first one (unify_all_joins m n ss ts one.to τ (λ x i. u x (inr i)) (λ x i. w x (inr i)) (one.joins.ground g)
      (sym (ap (option_and_then (λ τ. unify_all rigid m n ss ts τ)) one.gives) ∙ e)))
      (unify_joined σ (value (through σ m) s) (value (through σ n) t) (value_ground σ g m s us) (value_ground σ g n t wt))
    where
      us : Slotted s
      us = u s (inl refl)

      wt : Slotted t
      wt = w t (inl refl)

      first : (one : Joined rigid σ (value (through σ m) s) (value (through σ n) t)) → Joins rigid one.to τ × Alike m n ss ts τ
          → Joins rigid σ τ × Alike m n (s ∷ ss) (t ∷ ts) τ
      first one more =
          let now-same : value (through one.to m) s ≡ value (through one.to n) t =
          refined_value σ one.to one.joins.refines m s us ∙ one.equal ∙ sym (refined_value σ one.to one.joins.refines n t wt) in (
            joins_more σ one.to τ one.joins more.0,
            cons_path
                (refined_value one.to τ more.0.refines m s us ∙ ap more.0.refines.by now-same
                ∙ sym (refined_value one.to τ more.0.refines n t wt))
                more.1,
          )

  pub unify_formulas_joins : (m n : ℕ) (a b : Formula) (σ τ : Subst) → Each Slotted a.terms → Each Slotted b.terms → AllGround σ
      → unify_formulas rigid m n a b σ ≡ Some τ → Joins rigid σ τ × (under (through τ m) a ≡ under (through τ n) b)
  unify_formulas_joins m n a b σ τ u w g e =
      ⊎_elim
      (λ q. let r = unify_all_joins m n a.terms b.terms σ τ u w g (sym (elim_true (eqb a.predicate b.predicate) (unify_all rigid m n a.terms b.terms σ) None q) ∙ e) in
      (r.0, formula_path (eqb-true a.predicate b.predicate q) r.1))
      (λ q. absurd (none-some τ (sym (elim_false (eqb a.predicate b.predicate) (unify_all rigid m n a.terms b.terms σ) None q) ∙ e)))
      (cases_Bool (eqb a.predicate b.predicate))

-- formulas that are equal under a substitution are so under one that comes from it
pub still_alike : (σ τ : Subst) (r : Refines σ τ) (m n : ℕ) (a b : Formula) → Each Slotted a.terms → Each Slotted b.terms
    → under (through σ m) a ≡ under (through σ n) b → under (through τ m) a ≡ under (through τ n) b
still_alike σ τ r m n a b u w e =
    formula_path (ap (λ (x : Formula). x.predicate) e) (still_same σ τ r m n a.terms b.terms u w (ap (λ (x : Formula). x.terms) e))
