-- The search for restraint: a witness that follows it to a node follows it to one of the children, also where the null of a
-- slot is made one that the application gave; and what is open at the end, with no alternative too early, shows the restraint.
-- Assumes nothing.
use Rattle.std.proofs.Common.{◌≡◌, ℕ, zero, suc, ◌+◌, ◌-◌, ◌<◌, ◌≤◌, Bool, true, false, cond, ◌&&◌, ◌||◌, ltb, ◌⊎◌, List, [], ◌∷◌, ◌++◌, map, length, sym, refl, ap, ◌∙◌, subst, inl, inr, ⊎_elim, zero-add, arith, Some}
use Rattle.std.proofs.lemmas.List.{length-map}
use Rattle.std.proofs.lemmas.Bool.Decides.{Decides-and}
use Rattle.std.proofs.lemmas.Bool.{cond-true, cond-false, lt-ltb, le-ltb, cases_Bool, cases_lt, both_ways, false≢true, not_from_false, not_from_true}
use Rattle.rules.specs.declared.Term.{Term}
use Rattle.rules.specs.declared.Term.TheVariants.{Constant, Variable, Null}
use Rattle.rules.specs.Logic.{In, Each, Formula, Implication, terms_of, Universal, Existential}
use Rattle.rules.specs.Bounds.{some}
use Rattle.rules.specs.Matches.{Assignment, value, under, Ground, IsNull, Stands, Facts, Applies, result}
use Rattle.rules.specs.Reliances.{Alternative, ShowsRestraint, Restraint}
use Rattle.rules.proofs.Membership.{false_from, in_left, in_right, in_either}
use Rattle.matches.specs.Lists.{look, Sized, Sizes}
use Rattle.matches.specs.Matching.{same, stands_in}
use Rattle.matches.proofs.Basics.{in_map, from_map, in_terms, from_terms, cons_path, formula_path, under_same, either, decides_same, decides_some, decides_stands_in}
use Rattle.matches.proofs.Below.{in_kept, kept_of}
use Rattle.matches.proofs.Bounded.{Within, Bounded, by_formula}
use Rattle.std.specs.List.{filter}
use Rattle.reliances.specs.Unification.{Subst, existential_term?, through, replaced, flexible, unify_formulas, rigid?, rigid_both, start, part, wide, shift_var, shift_term, shift_formula, other, moved, loose_count, before_of, extra_of, later_of, shares?}
use Rattle.reliances.specs.Following.{hat, slot, three, Reached}
use Rattle.reliances.specs.RestraintSearch.{opens?, shifted, Followed, Open}
use Rattle.reliances.proofs.Unify.{Slotted, slotted, Solid, elim_true, elim_false, is_flexible, replaced_is, replaced_not, good_replaced, joins_replaced, unify_formulas_works}
use Rattle.reliances.proofs.Pull.{lift, Into, lift_under, lift_to, stands_lifts, satisfied_lifts, into_map, into_both, into_more}
use Rattle.reliances.proofs.Slots.{decides_rigid, look_start, look_part, look_wide, part_ground, facts_under, facts_both, each_more, unshared}
use Rattle.reliances.proofs.Reaching as reaching

three_first : (f h k : Assignment) (v : ℕ) → v < 12 → three f h k v ≡ f v
three_first f h k v l = cond-true (ltb v 12) (f v) (cond (ltb v 24) (h (v - 12)) (k (v - 24))) (lt-ltb v 12 l)

three_second : (f h k : Assignment) (v : ℕ) → v < 12 → three f h k (12 + v) ≡ h v
three_second f h k v l =
    let le : 12 ≤ 12 + v = omega arith in
    let lt : 12 + v < 24 = omega arith in
    let back : 12 + v - 12 ≡ v = omega arith in
    cond-false (ltb (12 + v) 12) (f (12 + v)) (cond (ltb (12 + v) 24) (h (12 + v - 12)) (k (12 + v - 24))) (le-ltb (12 + v) 12 le)
    ∙ cond-true (ltb (12 + v) 24) (h (12 + v - 12)) (k (12 + v - 24)) (lt-ltb (12 + v) 24 lt) ∙ ap h back

three_third : (f h k : Assignment) (v : ℕ) → three f h k (24 + v) ≡ k v
three_third f h k v =
    let le : 12 ≤ 24 + v = omega arith in
    let le2 : 24 ≤ 24 + v = omega arith in
    let back : 24 + v - 24 ≡ v = omega arith in
    cond-false (ltb (24 + v) 12) (f (24 + v)) (cond (ltb (24 + v) 24) (h (24 + v - 12)) (k (24 + v - 24))) (le-ltb (24 + v) 12 le)
    ∙ cond-false (ltb (24 + v) 24) (h (24 + v - 12)) (k (24 + v - 24)) (le-ltb (24 + v) 24 le2) ∙ ap k back

or_false : (b c : Bool) → (b || c) ≡ false → (b ≡ false) × (c ≡ false)
or_false true c e = absurd (false≢true (sym e))
or_false false c e = (refl, e)

pub none_passes : {X : Type 0} (p : X → Bool) (xs : List X) → some p xs ≡ false → (x : X) → In x xs → p x ≡ false
none_passes p [] e x i = absurd i
none_passes p (y ∷ ys) e x (inl q) = ap p q ∙ (or_false (p y) (some p ys) e).0
none_passes p (y ∷ ys) e x (inr i) = none_passes p ys (or_false (p y) (some p ys) e).1 x i

-- an atom of B's head in which no existential variable stands is the same by all assignments that agree on universal variables
closed_same : (B : Implication) (h k : Assignment) → ((v : ℕ) → Universal B v → k v ≡ h v) → (b : Formula) → In b B.head → opens? B b ≡ false → under k b ≡ under h b
closed_same B h k agrees b i closed =
    under_same k h b (λ v j.
    ⊎_elim (agrees v)
    (λ n. absurd (both_ways (rigid? B v) (none_passes (existential_term? B) b.terms closed (Variable v) j) ((decides_rigid B v).1 (in_terms (Variable v) b B.head i j, n))))
    (either (stands_in (Variable v) B.body) (decides_stands_in (Variable v) B.body)))

-- an atom of B's head is gone through, or in it no existential variable stands
gone_or_closed : (B : Implication) (b : Formula) → In b B.head → In (shift_formula B b) (shifted B) ⊎ (opens? B b ≡ false)
gone_or_closed B b i =
    ⊎_elim (λ e. inl (in_map (shift_formula B) b (filter (opens? B) B.head) (in_kept (opens? B) b B.head i e))) (λ e. inr e) (cases_Bool (opens? B b))

-- what is gone through is an atom of B's head, as the alternative reads it
from_shifted : (B : Implication) (s : Formula) → In s (shifted B) → (b : Formula) × In b B.head × (s ≡ shift_formula B b)
from_shifted B s i =
    let r = from_map (shift_formula B) s (filter (opens? B) B.head) i in
    (r.0, kept_of (opens? B) r.0 B.head r.1, r.2)

shift_existential : (B : Implication) (v : ℕ) → Existential B v → shift_var B v ≡ 12 + v
shift_existential B v x = elim_true (rigid? B v) (12 + v) v ((decides_rigid B v).1 x)

pub shift_universal : (B : Implication) (v : ℕ) → Universal B v → shift_var B v ≡ v
shift_universal B v u = elim_false (rigid? B v) (12 + v) v (false_from (rigid? B v) (decides_rigid B v) (λ x. x.1 u))

pub shift_below : (B : Implication) (v : ℕ) → v < 12 → shift_var B v < 24
shift_below B v l = at (rigid? B v)
  where
    at : (b : Bool) → (elim b [ true ↦ 12 + v | false ↦ v ]) < 24
    at true = omega arith
    at false = omega arith

shift_terms : (B : Implication) (g : Assignment) (ts : List Term) → map (value g) (map (shift_term B) ts) ≡ map (value (λ v. g (shift_var B v))) ts
shift_terms B g [] = refl
shift_terms B g (Constant c ∷ ts) = cons_path refl (shift_terms B g ts)
shift_terms B g (Variable v ∷ ts) = cons_path refl (shift_terms B g ts)
shift_terms B g (Null n ∷ ts) = cons_path refl (shift_terms B g ts)

pub under_shift : (B : Implication) (g : Assignment) (b : Formula) → under g (shift_formula B b) ≡ under (λ v. g (shift_var B v)) b
under_shift B g b = formula_path refl (shift_terms B g b.terms)

shift_slotted : (B : Implication) (ts : List Term) → Each Within ts → Each Slotted (map (shift_term B) ts)
shift_slotted B ts w t i = let r = from_map (shift_term B) t ts i in subst Slotted (sym r.2) (at r.0 (w r.0 r.1))
  where
    at : (s : Term) → Within s → Slotted (shift_term B s)
    at (Constant c) u = tt
    at (Variable v) u = shift_below B v u
    at (Null n) u = u

pub wide_ground : (σ : Subst) → ((i : ℕ) → Ground (look σ i)) → (t : Term) → Slotted t → Ground (value (look (wide σ)) t)
wide_ground σ g (Constant c) w = tt
wide_ground σ g (Variable v) w = subst Ground (sym (look_wide σ v w)) (g (12 + v))
wide_ground σ g (Null n) w = absurd w

in_look : (σ : Subst) (i r : ℕ) → look σ i ≡ Null r → In (Null r) σ
in_look [] i r e = absurd (let z : ◌≡◌ {A = ℕ} 0 1 = cc in omega arith)
in_look (t ∷ ts) zero r e = inl (sym e)
in_look (t ∷ ts) (suc i) r e = inr (in_look ts i r e)

-- a null in formulas that an assignment filled from slots stands in a slot
stands_slot : (σ : Subst) (g : Assignment) (at : ℕ → ℕ) (Q : Term → Type 0) → ((v : ℕ) → Q (Variable v) → g v ≡ look σ (at v)) → ((n : ℕ) → Q (Null n) → ⊥)
    → (r : ℕ) (xs : List Formula) → Each (λ a. Each Q a.terms) xs → Stands (Null r) (map (under g) xs) → In (Null r) σ
stands_slot σ g at Q reads not_null r xs w s =
    let p = from_terms (Null r) (map (under g) xs) s in
    let q = from_map (under g) p.0 xs p.1 in
    let t = from_map (value g) (Null r) q.0.terms (subst (λ (x : Formula). In (Null r) x.terms) q.2 p.2) in
    go t.0 (w q.0 q.1 t.0 t.1) t.2
  where
    go : (t : Term) → Q t → Null r ≡ value g t → In (Null r) σ
    go (Constant c) z e = absurd (let y : ◌≡◌ {A = ℕ} 0 1 = cc in omega arith)
    go (Null n) z e = absurd (not_null n z)
    go (Variable v) z e = in_look σ (at v) r (sym (reads v z) ∙ sym e)

stands_either : (t : Term) (xs ys : List Formula) → Stands t (xs ++ ys) → Stands t xs ⊎ Stands t ys
stands_either t xs ys i =
    let r = from_terms t (xs ++ ys) i in
    ⊎_elim (λ j. inl (in_terms t r.0 xs j r.2)) (λ j. inr (in_terms t r.0 ys j r.2)) (in_either r.0 xs ys r.1)

-- in what shows a restraint, such an atom by the alternative is there before A is applied
closed_later : (A B : Implication) {F H : List Formula} {f h k : Assignment} → ShowsRestraint A B F H f h k → (b : Formula) → In b B.head → opens? B b ≡ false → In (under k b) H
closed_later A B {F} {H} {f} {h} {k} w b i closed =
    subst (λ x. In x H) (sym (closed_same B h k w.alternative.agrees b i closed))
    (w.contains (under h b) (in_right (under h b) F (map (under h) B.head) (in_map (under h) b B.head i)))

-- all that shows the restraint, but that there is no alternative too early
pub record Ready (A B : Implication) (σ : Subst) (old : List Formula) : Type 0 where
  pub facts : Facts (before_of B σ)
  pub second : Applies B (look (part σ 12)) (before_of B σ)
  pub later : Facts (later_of A B σ old)
  pub first : Applies A (look (part σ 0)) (later_of A B σ old)
  pub alternative : Alternative B (look (part σ 12)) (result A (look (part σ 0)) (later_of A B σ old)) (other B σ)

pub ready_shows : (A B : Implication) (σ : Subst) (old : List Formula) → Ready A B σ old
    → ((k : Assignment) → Alternative B (look (part σ 12)) (later_of A B σ old) k → ⊥)
    → ShowsRestraint A B (before_of B σ) (later_of A B σ old) (look (part σ 0)) (look (part σ 12)) (other B σ)
ready_shows A B σ old r none = record {
  facts = r.facts;
  second = r.second;
  later = r.later;
  contains = λ a i. in_left a (result B (look (part σ 12)) (before_of B σ)) (extra_of A σ old) i;
  first = r.first;
  alternative = r.alternative;
  none = none;
}

module _ (A B : Implication) (ba : Bounded A) (bb : Bounded B) (rigid : ℕ → Bool) (is_rigid : (k : ℕ) → rigid k ≡ rigid_both A B k) where
  abbrev Heads : List Formula
  Heads = shifted B

  abbrev ReachedHere : Subst → List Formula → List Formula → Type 0
  ReachedHere = Reached A.head Heads rigid

  abbrev OfB : ℕ → Type 0
  OfB r = (v : ℕ) × Existential B v × (r ≡ 12 + v)

  -- a rigid slot is of an existential variable of A or of B
  rigid_is : (r : ℕ) → rigid r ≡ true → Existential A r ⊎ OfB r
  rigid_is r e =
      ⊎_elim
      (λ (l : r < 12). inl ((decides_rigid A r).0 (sym (elim_true (ltb r 12) (rigid? A r) (rigid? B (r - 12)) (lt-ltb r 12 l)) ∙ sym (is_rigid r) ∙ e)))
      (λ (l : 12 ≤ r). inr (r - 12, (decides_rigid B (r - 12)).0 (sym (elim_false (ltb r 12) (rigid? A r) (rigid? B (r - 12)) (le-ltb r 12 l)) ∙ sym (is_rigid r) ∙ e), omega arith))
      (cases_lt r 12)

  small_a : (v : ℕ) → Existential A v → v < 12
  small_a v x = ba.head (Variable v) x.0

  small_b : (v : ℕ) → Existential B v → v < 12
  small_b v x = bb.head (Variable v) x.0

  rigid_first : (v : ℕ) → Existential A v → rigid v ≡ true
  rigid_first v x = is_rigid v ∙ elim_true (ltb v 12) (rigid? A v) (rigid? B (v - 12)) (lt-ltb v 12 (small_a v x)) ∙ (decides_rigid A v).1 x

  pub rigid_second : (v : ℕ) → Existential B v → rigid (12 + v) ≡ true
  rigid_second v x =
      let le : 12 ≤ 12 + v = omega arith in
      let back : 12 + v - 12 ≡ v = omega arith in
      is_rigid (12 + v) ∙ elim_false (ltb (12 + v) 12) (rigid? A (12 + v)) (rigid? B (12 + v - 12)) (le-ltb (12 + v) 12 le) ∙ ap (rigid? B) back ∙ (decides_rigid B v).1 x

  body_a : Each (λ a. Each Within a.terms) A.body
  body_a = by_formula A.body ba.body

  head_a : Each (λ a. Each Within a.terms) A.head
  head_a = by_formula A.head ba.head

  body_b : Each (λ a. Each Within a.terms) B.body
  body_b = by_formula B.body bb.body

  head_b : Each (λ a. Each Within a.terms) B.head
  head_b = by_formula B.head bb.head

  pub slots_a : Each (λ a. Each Slotted a.terms) A.head
  slots_a a i t j = slotted t (head_a a i t j)

  pub slots_b : Each (λ a. Each Slotted a.terms) Heads
  slots_b s i =
      let r = from_shifted B s i in
      subst (λ (z : Formula). Each Slotted z.terms) (sym r.2) (shift_slotted B r.0.terms (head_b r.0 r.1))

  sizes_b : Sizes B → Each Sized Heads
  sizes_b sb s i =
      let r = from_shifted B s i in
      subst Sized (sym r.2) (at r.0 (sb.head r.0 r.1))
    where
      at : (b : Formula) → Sized b → Sized (shift_formula B b)
      at b z =
          let same_length : length (map (shift_term B) b.terms) ≡ length b.terms = length-map b.terms (shift_term B) in
          (subst (λ n. 1 ≤ n) (sym same_length) z.0, subst (λ n. n ≤ 4) (sym same_length) z.1)

  pub start_keeps : (i : ℕ) → rigid i ≡ true → look start i ≡ Null i
  start_keeps i e =
      look_start i (⊎_elim (λ x. let l = small_a i x in omega arith) (λ z. let l = small_b z.0 z.1 in let q = z.2 in omega arith) (rigid_is i e))

  pub reach_start : ReachedHere start [] Heads
  reach_start = reaching.reach_start A.head Heads slots_a slots_b rigid start_keeps

  pub reach_old : (σ : Subst) (old : List Formula) (b : Formula) (rest : List Formula) → ReachedHere σ old (b ∷ rest) → ReachedHere σ (old ++ (b ∷ [])) rest
  reach_old = reaching.reach_old A.head Heads slots_a slots_b rigid

  pub reach_new : (σ τ : Subst) (old : List Formula) (b : Formula) (rest : List Formula) (a : Formula) → In a A.head
      → unify_formulas rigid 0 12 a b σ ≡ Some τ → ReachedHere σ old (b ∷ rest) → ReachedHere τ old rest
  reach_new = reaching.reach_new A.head Heads slots_a slots_b rigid

  pub reach_moved : (σ : Subst) (old rest : List Formula) (r v : ℕ) → rigid r ≡ false → Existential B v → ReachedHere σ old rest → ReachedHere (moved r v σ) old rest
  reach_moved σ old rest r v flex x z =
      reaching.reach_joined A.head Heads slots_a slots_b rigid σ (moved r v σ) old rest
      (joins_replaced rigid σ (Null r) (Null (12 + v)) (not_from_false (rigid r) flex) tt) z

  module _ (σ : Subst) (old : List Formula) where
    abbrev h_a : Assignment
    h_a = look (part σ 0)

    abbrev h_b : Assignment
    h_b = look (part σ 12)

    abbrev h_s : Assignment
    h_s = look (wide σ)

    abbrev h_k : Assignment
    h_k = other B σ

    abbrev C : List Formula
    C = before_of B σ

    abbrev D : List Formula
    D = later_of A B σ old

    matches_a : Each (λ a. In (under h_a a) D) A.body
    matches_a a i =
        in_right (under h_a a) (result B h_b C) (extra_of A σ old)
        (in_left (under h_a a) (map (under h_a) A.body) (map (under h_s) old) (in_map (under h_a) a A.body i))

    agrees_b : (v : ℕ) → Universal B v → h_k v ≡ h_b v
    agrees_b v u =
        let l = bb.body (Variable v) u in
        ap (look (wide σ)) (shift_universal B v u) ∙ look_wide σ v (let l' : v < 12 = l in omega arith) ∙ sym (look_part σ 12 v l)

    module _ (r : ReachedHere σ old []) where
      kept_a : (v : ℕ) → Existential A v → h_a v ≡ Null v
      kept_a v x = look_part σ 0 v (small_a v x) ∙ ap (look σ) (zero-add v) ∙ r.keeps v (rigid_first v x)

      kept_b : (v : ℕ) → Existential B v → h_b v ≡ Null (12 + v)
      kept_b v x = look_part σ 12 v (small_b v x) ∙ r.keeps (12 + v) (rigid_second v x)

      facts_before : Sizes B → Facts C
      facts_before sb = facts_under h_b Within (part_ground σ r.ground 12) B.body body_b sb.body

      facts_later : Sizes A → Sizes B → Facts D
      facts_later sa sb =
          facts_both (result B h_b C) (extra_of A σ old)
          (facts_both C (map (under h_b) B.head) (facts_before sb)
          (facts_under h_b Within (part_ground σ r.ground 12) B.head head_b sb.head))
          (facts_both (map (under h_a) A.body) (map (under h_s) old)
          (facts_under h_a Within (part_ground σ r.ground 0) A.body body_a sa.body)
          (facts_under h_s Slotted (wide_ground σ r.ground) old (λ o i. slots_b o (r.old_from o i)) (λ o i. sizes_b sb o (r.old_from o i))))

      through_first : (a : Formula) → Each Within a.terms → under h_a a ≡ under (through σ 0) a
      through_first a i = under_same h_a (through σ 0) a (λ v j. look_part σ 0 v (i (Variable v) j))

      through_shift : (b : Formula) → In b B.head → under h_k b ≡ under (through σ 12) (shift_formula B b)
      through_shift b i =
          under_same h_k (λ v. look σ (12 + shift_var B v)) b (λ v j. look_wide σ (shift_var B v) (shift_below B v (head_b b i (Variable v) j)))
          ∙ sym (under_shift B (through σ 12) b)

      covered : Each (λ b. In (under h_k b) (result A h_a D)) B.head
      covered b i =
          ⊎_elim
          (λ g. ⊎_elim (λ j. absurd j)
          (λ j. ⊎_elim
          (λ k. in_left (under h_k b) D (map (under h_a) A.head)
          (in_right (under h_k b) (result B h_b C) (extra_of A σ old)
          (in_right (under h_k b) (map (under h_a) A.body) (map (under h_s) old)
          (subst (λ x. In x (map (under h_s) old)) (under_shift B h_s b) (in_map (under h_s) (shift_formula B b) old k)))))
          (λ z. in_right (under h_k b) D (map (under h_a) A.head)
          (subst (λ x. In x (map (under h_a) A.head))
          (through_first z.0 (head_a z.0 z.1) ∙ z.2 ∙ sym (through_shift b i))
          (in_map (under h_a) z.0 A.head z.1)))
          j)
          (r.covers (shift_formula B b) g))
          (λ closed. in_left (under h_k b) D (map (under h_a) A.head)
          (in_left (under h_k b) (result B h_b C) (extra_of A σ old)
          (in_right (under h_k b) C (map (under h_b) B.head)
          (subst (λ x. In x (map (under h_b) B.head)) (sym (closed_same B h_b h_k agrees_b b i closed)) (in_map (under h_b) b B.head i)))))
          (gone_or_closed B b i)

      ready_at : Sizes A → Sizes B → Open A B σ old → Ready A B σ old
      ready_at sa sb o = record {
        facts = facts_before sb;
        second = record {
          unsatisfied = record { matches = λ a i. in_map (under h_b) a B.body i; missing = o.second };
          fresh = record {
            nulls = λ v x. subst IsNull (sym (kept_b v x)) tt;
            new = λ v x i. o.spare_second v x (subst (λ t. Stands t C) (kept_b v x) i);
            apart = λ v u x y e. let z : 12 + v ≡ 12 + u = cc (kept_b v x, kept_b u y) in omega arith;
          };
        };
        later = facts_later sa sb;
        first = record {
          unsatisfied = record { matches = matches_a; missing = o.first };
          fresh = record {
            nulls = λ v x. subst IsNull (sym (kept_a v x)) tt;
            new = λ v x i. o.spare_first v x (subst (λ t. Stands t D) (kept_a v x) i);
            apart = λ v u x y e. cc (kept_a v x, kept_a u y);
          };
        };
        alternative = record {
          agrees = agrees_b;
          present = covered;
          spared = o.spared.0;
          given = o.spared.1;
          absent = λ i. o.spared.2 (subst (λ t. Stands t (map (under h_k) B.head)) (kept_b o.spared.0 o.spared.1) i);
        };
      }

  pub reach_ready : Sizes A → Sizes B → (σ : Subst) (old : List Formula) → ReachedHere σ old [] → Open A B σ old → Ready A B σ old
  reach_ready sa sb σ old r o = ready_at σ old r sa sb o

  pub reach_shows : Sizes A → Sizes B → (σ : Subst) (old : List Formula) → ReachedHere σ old [] → Open A B σ old
      → ((k : Assignment) → Alternative B (look (part σ 12)) (later_of A B σ old) k → ⊥)
      → ShowsRestraint A B (before_of B σ) (later_of A B σ old) (look (part σ 0)) (look (part σ 12)) (other B σ)
  reach_shows sa sb σ old r o none = ready_shows A B σ old (ready_at σ old r sa sb o) none

  -- an existential variable of B keeps its null
  pub reach_null : (σ : Subst) (old rest : List Formula) → ReachedHere σ old rest → (v : ℕ) → Existential B v → look (part σ 12) v ≡ Null (12 + v)
  reach_null σ old rest r v x = look_part σ 12 v (small_b v x) ∙ r.keeps (12 + v) (rigid_second v x)

  -- a null in the later facts comes from a slot
  pub null_slot : (σ : Subst) (old rest : List Formula) → ReachedHere σ old rest → (r : ℕ) → Stands (Null r) (later_of A B σ old) → In (Null r) σ
  null_slot σ old rest z r s =
      ⊎_elim
      (λ q. ⊎_elim (in_part 12 B.body body_b) (in_part 12 B.head head_b)
      (stands_either (Null r) (before_of B σ) (map (under (look (part σ 12))) B.head) q))
      (λ q. ⊎_elim (in_part 0 A.body body_a)
      (stands_slot σ (look (wide σ)) (λ v. 12 + v) Slotted (look_wide σ) (λ n x. x) r old (λ o i. slots_b o (z.old_from o i)))
      (stands_either (Null r) (map (under (look (part σ 0))) A.body) (map (under (look (wide σ))) old) q))
      (stands_either (Null r) (result B (look (part σ 12)) (before_of B σ)) (extra_of A σ old) s)
    where
      in_part : (off : ℕ) (xs : List Formula) → Each (λ a. Each Within a.terms) xs → Stands (Null r) (map (under (look (part σ off))) xs) → In (Null r) σ
      in_part off xs w i = stands_slot σ (look (part σ off)) (λ v. off + v) Within (look_part σ off) (λ n x. x) r xs w i

  -- what a slot counts
  abbrev weight : Term → ℕ
  weight t = cond (flexible rigid t) 1 0

  -- a null that becomes one that the application gave no longer counts
  count_at : (r v : ℕ) → rigid r ≡ false → rigid (12 + v) ≡ true → (t : Term)
      → (weight (replaced (Null r) (Null (12 + v)) t) ≤ weight t) × (t ≡ Null r → weight (replaced (Null r) (Null (12 + v)) t) < weight t)
  count_at r v flex firm t =
      ⊎_elim
      (λ e. let falls = is_less e in (omega arith, λ q. falls))
      (λ n. ((let e = ap weight (replaced_not (Null r) (Null (12 + v)) t n) in omega arith), λ q. absurd (n q)))
      (either (same t (Null r)) (decides_same t (Null r)))
    where
      is_less : t ≡ Null r → weight (replaced (Null r) (Null (12 + v)) t) < weight t
      is_less e =
          let one : weight t ≡ 1 = ap weight e ∙ cond-true (flexible rigid (Null r)) 1 0 (not_from_false (rigid r) flex) in
          let none : weight (replaced (Null r) (Null (12 + v)) t) ≡ 0 =
          ap weight (replaced_is (Null r) (Null (12 + v)) t e)
          ∙ cond-false (flexible rigid (Null (12 + v))) 1 0 (not_from_true (rigid (12 + v)) firm) in
          omega arith

  count_stays : (r v : ℕ) → rigid r ≡ false → rigid (12 + v) ≡ true → (σ : Subst) → loose_count rigid (moved r v σ) ≤ loose_count rigid σ
  count_stays r v flex firm [] = omega arith
  count_stays r v flex firm (t ∷ ts) =
      let a = (count_at r v flex firm t).0 in
      let b = count_stays r v flex firm ts in
      omega arith

  falls_at : (r v : ℕ) → rigid r ≡ false → rigid (12 + v) ≡ true → (σ : Subst) → In (Null r) σ → loose_count rigid (moved r v σ) < loose_count rigid σ
  falls_at r v flex firm [] i = absurd i
  falls_at r v flex firm (t ∷ ts) (inl e) =
      let a = (count_at r v flex firm t).1 (sym e) in
      let b = count_stays r v flex firm ts in
      omega arith
  falls_at r v flex firm (t ∷ ts) (inr i) =
      let a = (count_at r v flex firm t).0 in
      let b = falls_at r v flex firm ts i in
      omega arith

  pub count_falls : (σ : Subst) (r v : ℕ) → rigid r ≡ false → Existential B v → In (Null r) σ → loose_count rigid (moved r v σ) < loose_count rigid σ
  count_falls σ r v flex x i = falls_at r v flex (rigid_second v x) σ i

  pub follow_start : Restraint A B → Followed A B rigid start []
  follow_start r = record {
    facts = r.before;
    later = r.later;
    first = r.first;
    second = r.second;
    other = r.other;
    shows = r.shows;
    good = record {
      respects = λ i l. ap (hat (three r.first r.second r.other)) (look_start i l);
      keeps = start_keeps;
    };
    actual = λ o i. absurd i;
  }

  module _ (σ : Subst) (old : List Formula) (w : Followed A B rigid σ old) where
    abbrev F : List Formula
    F = w.facts

    abbrev H : List Formula
    H = w.later

    abbrev f : Assignment
    f = w.first

    abbrev h : Assignment
    h = w.second

    abbrev k : Assignment
    k = w.other

    abbrev θ : ℕ → Term
    θ = three f h k

    first_a : (v : ℕ) → Existential A v → θ v ≡ f v
    first_a v x = three_first f h k v (small_a v x)

    second_b : (v : ℕ) → Existential B v → θ (12 + v) ≡ h v
    second_b v x = three_second f h k v (small_b v x)

    given_in_later : (v : ℕ) → Existential B v → Stands (h v) H
    given_in_later v x =
        let r = from_terms (Variable v) B.head x.0 in
        in_terms (h v) (under h r.0) H
        (w.shows.contains (under h r.0) (in_right (under h r.0) F (map (under h) B.head) (in_map (under h) r.0 B.head r.1)))
        (in_map (value h) (Variable v) r.0.terms r.2)

    across : (r v : ℕ) → Existential A r → Existential B v → f r ≡ h v → ⊥
    across r v x y e = w.shows.first.fresh.new r x (subst (λ t. Stands t H) (sym e) (given_in_later v y))

    value_of_b : (r : ℕ) (z : OfB r) → θ r ≡ h z.0
    value_of_b r z = ap θ z.2 ∙ second_b z.0 z.1

    solid : Solid θ rigid
    solid = record { nulls = nulls; apart = λ r q d e p. apart r q p (rigid_is r d) (rigid_is q e) }
      where
        nulls : (r : ℕ) → rigid r ≡ true → IsNull (θ r)
        nulls r e =
            ⊎_elim (λ x. subst IsNull (sym (first_a r x)) (w.shows.first.fresh.nulls r x))
            (λ z. subst IsNull (sym (value_of_b r z)) (w.shows.second.fresh.nulls z.0 z.1))
            (rigid_is r e)

        apart : (r q : ℕ) → θ r ≡ θ q → Existential A r ⊎ OfB r → Existential A q ⊎ OfB q → r ≡ q
        apart r q p (inl x) (inl y) = w.shows.first.fresh.apart r q x y (sym (first_a r x) ∙ p ∙ first_a q y)
        apart r q p (inl x) (inr z) = absurd (across r z.0 x z.1 (sym (first_a r x) ∙ p ∙ value_of_b q z))
        apart r q p (inr z) (inl y) = absurd (across q z.0 y z.1 (sym (first_a q y) ∙ sym p ∙ value_of_b r z))
        apart r q p (inr z) (inr y) =
            z.2 ∙ ap (λ v. 12 + v) (w.shows.second.fresh.apart z.0 y.0 z.1 y.1 (sym (value_of_b r z) ∙ p ∙ value_of_b q y)) ∙ sym y.2

    first_under : (a : Formula) → Each Within a.terms → under (slot θ 0) a ≡ under f a
    first_under a i = under_same (slot θ 0) f a (λ v j. ap θ (zero-add v) ∙ three_first f h k v (i (Variable v) j))

    third_at : (v : ℕ) → Stands (Variable v) B.head → θ (12 + shift_var B v) ≡ k v
    third_at v i =
        ⊎_elim
        (λ u. ap (λ z. θ (12 + z)) (shift_universal B v u) ∙ three_second f h k v (bb.body (Variable v) u) ∙ sym (w.shows.alternative.agrees v u))
        (λ n. ap (λ z. θ (12 + z)) (shift_existential B v (i, n)) ∙ ap θ (let e : 12 + (12 + v) ≡ 24 + v = omega arith in e) ∙ three_third f h k v)
        (either (stands_in (Variable v) B.body) (decides_stands_in (Variable v) B.body))

    third_under : (b : Formula) → In b B.head → under (slot θ 12) (shift_formula B b) ≡ under k b
    third_under b i = under_shift B (slot θ 12) b ∙ under_same (λ v. θ (12 + shift_var B v)) k b (λ v j. third_at v (in_terms (Variable v) b B.head i j))

    abbrev Child : Formula → Type 0
    Child b = (a : Formula) × In a A.head × ((τ : Subst) × (unify_formulas rigid 0 12 a b σ ≡ Some τ) × Followed A B rigid τ old)

    split_at : (b : Formula) → In b Heads → Followed A B rigid σ (old ++ (b ∷ [])) ⊎ Child b
    split_at b i =
        let q = from_shifted B b i in
        let actual-b : under (slot θ 12) b ≡ under k q.0 = ap (under (slot θ 12)) q.2 ∙ third_under q.0 q.1 in
        ⊎_elim
        (λ j. inl (record {
          facts = F;
          later = H;
          first = f;
          second = h;
          other = k;
          shows = w.shows;
          good = w.good;
          actual = each_more (λ o. In (under (slot θ 12) o) H) old b w.actual (subst (λ x. In x H) (sym actual-b) j);
        }))
        (λ j.
        let r = from_map (under f) (under k q.0) A.head j in
        let a = r.0 in
        let u = unify_formulas_works θ rigid solid 0 12 (omega arith) (omega arith) a b σ (slots_a a r.1) (slots_b b i) w.good
        (first_under a (head_a a r.1) ∙ sym r.2 ∙ sym actual-b) in
        inr (
          a,
          r.1,
          (
            u.to,
            u.gives,
            record {
              facts = F;
              later = H;
              first = f;
              second = h;
              other = k;
              shows = w.shows;
              good = u.good;
              actual = w.actual;
            },
          ),
        ))
        (in_either (under k q.0) H (map (under f) A.head) (w.shows.alternative.present q.0 q.1))

    module _ (from : Each (λ o. In o Heads) old) where
      respect_a : (v : ℕ) → v < 12 → hat θ (h_a σ old v) ≡ f v
      respect_a v l = ap (hat θ) (look_part σ 0 v l ∙ ap (look σ) (zero-add v)) ∙ w.good.respects v (omega arith) ∙ three_first f h k v l

      respect_b : (v : ℕ) → v < 12 → hat θ (h_b σ old v) ≡ h v
      respect_b v l = ap (hat θ) (look_part σ 12 v l) ∙ w.good.respects (12 + v) (omega arith) ∙ three_second f h k v l

      respect_k : (v : ℕ) → v < 12 → hat θ (h_k σ old v) ≡ θ (12 + shift_var B v)
      respect_k v l = let s = shift_below B v l in ap (hat θ) (look_wide σ (shift_var B v) s) ∙ w.good.respects (12 + shift_var B v) (omega arith)

      universal_a : (v : ℕ) → Universal A v → hat θ (h_a σ old v) ≡ f v
      universal_a v u = respect_a v (ba.body (Variable v) u)

      universal_b : (v : ℕ) → Universal B v → hat θ (h_b σ old v) ≡ h v
      universal_b v u = respect_b v (bb.body (Variable v) u)

      first_lift : (a : Formula) → Each Within a.terms → lift θ (under (h_a σ old) a) ≡ under f a
      first_lift a i = lift_to θ (h_a σ old) f a i (λ v j. respect_a v (i (Variable v) j))

      second_lift : (b : Formula) → Each Within b.terms → lift θ (under (h_b σ old) b) ≡ under h b
      second_lift b i = lift_to θ (h_b σ old) h b i (λ v j. respect_b v (i (Variable v) j))

      shifted_lift : (b : Formula) → In b B.head → lift θ (under (h_k σ old) b) ≡ under (slot θ 12) (shift_formula B b)
      shifted_lift b i =
          lift_to θ (h_k σ old) (λ v. θ (12 + shift_var B v)) b (head_b b i) (λ v j. respect_k v (head_b b i (Variable v) j)) ∙ sym (under_shift B (slot θ 12) b)

      old_lift : (o : Formula) → In o old → lift θ (under (h_s σ old) o) ≡ under (slot θ 12) o
      old_lift o i =
          let r = from_shifted B o (from o i) in
          ap (λ z. lift θ (under (h_s σ old) z)) r.2 ∙ ap (lift θ) (under_shift B (h_s σ old) r.0) ∙ shifted_lift r.0 r.1 ∙ ap (under (slot θ 12)) (sym r.2)

      into_before : Into θ (C σ old) F
      into_before = into_map θ (h_b σ old) h B.body F (λ b i. second_lift b (body_b b i)) w.shows.second.unsatisfied.matches

      into_result : Into θ (result B (h_b σ old) (C σ old)) (result B h F)
      into_result =
          into_both θ (C σ old) (map (under (h_b σ old)) B.head) (result B h F)
          (into_more θ (C σ old) F (result B h F) into_before (λ x i. in_left x F (map (under h) B.head) i))
          (into_map θ (h_b σ old) h B.head (result B h F) (λ a i. second_lift a (head_b a i))
          (λ a i. in_right (under h a) F (map (under h) B.head) (in_map (under h) a B.head i)))

      into_later : Into θ (D σ old) H
      into_later =
          into_both θ (result B (h_b σ old) (C σ old)) (extra_of A σ old) H
          (into_more θ (result B (h_b σ old) (C σ old)) (result B h F) H into_result w.shows.contains)
          (into_both θ (map (under (h_a σ old)) A.body) (map (under (h_s σ old)) old) H
          (into_map θ (h_a σ old) f A.body H (λ a i. first_lift a (body_a a i)) w.shows.first.unsatisfied.matches)
          (into_map θ (h_s σ old) (slot θ 12) old H old_lift w.actual))

      into_others : Into θ (map (under (h_k σ old)) B.head) (map (under k) B.head)
      into_others =
          into_map θ (h_k σ old) k B.head (map (under k) B.head) (λ b i. shifted_lift b i ∙ third_under b i) (λ a i. in_map (under k) a B.head i)

      open_at : Open A B σ old
      open_at = record {
        spare_second = λ v x i. w.shows.second.fresh.new v x
            (subst (λ t. Stands t F) (second_b v x) (stands_lifts θ (C σ old) F into_before (Null (12 + v)) i));
        second = λ z. w.shows.second.unsatisfied.missing (satisfied_lifts θ (C σ old) F into_before B (h_b σ old) h head_b universal_b z);
        spare_first = λ v x i. w.shows.first.fresh.new v x
            (subst (λ t. Stands t H) (first_a v x) (stands_lifts θ (D σ old) H into_later (Null v) i));
        first = λ z. w.shows.first.unsatisfied.missing (satisfied_lifts θ (D σ old) H into_later A (h_a σ old) f head_a universal_a z);
        spared = (
          w.shows.alternative.spared,
          w.shows.alternative.given,
          λ i. w.shows.alternative.absent
              (subst (λ t. Stands t (map (under k) B.head)) (second_b w.shows.alternative.spared w.shows.alternative.given)
              (stands_lifts θ (map (under (h_k σ old)) B.head) (map (under k) B.head) into_others (Null (12 + w.shows.alternative.spared)) i)),
        );
      }

      -- a term of the actual head comes from a symbolic one
      stands_back : (o : Assignment) (t : Term) → Stands t (map (under (λ v. hat θ (o v))) B.head)
          → (s : Term) × Stands s (map (under o) B.head) × (t ≡ hat θ s)
      stands_back o t i =
          let g = λ (a : Formula). under (λ v. hat θ (o v)) a in
          let p = from_terms t (map g B.head) i in
          let q = from_map g p.0 B.head p.1 in
          let e : p.0 ≡ lift θ (under o q.0) = q.2 ∙ sym (lift_under θ o q.0 (head_b q.0 q.1)) in
          let r = from_map (hat θ) t (under o q.0).terms (subst (λ (x : Formula). In t x.terms) e p.2) in
          (r.0, in_terms r.0 (under o q.0) (map (under o) B.head) (in_map (under o) q.0 B.head q.1) r.1, r.2)

      module _ (o : Assignment) (v : ℕ) (agrees : (u : ℕ) → Universal B u → o u ≡ h_b σ old u) (present : Each (λ a. In (under o a) (D σ old)) B.head)
          (given : Existential B v) (absent : Stands (Null (12 + v)) (map (under o) B.head) → ⊥) where
        abbrev T : List Formula
        T = map (under o) B.head

        -- a flexible null that stands for the spared one
        abbrev Stray : Term → Type 0
        Stray t = (flexible rigid t ≡ true) × (hat θ t ≡ θ (12 + v))

        isnull : IsNull (h v)
        isnull = w.shows.second.fresh.nulls v given

        none_at : ((t : Term) → Stands t T → Stray t → ⊥) → ⊥
        none_at clear = w.shows.none (λ u. hat θ (o u)) (record {
          agrees = λ u x. ap (hat θ) (agrees u x) ∙ universal_b u x;
          present = λ a i. subst (λ x. In x H) (lift_under θ o a (head_b a i)) (into_later (under o a) (present a i));
          spared = v;
          given = given;
          absent = λ i. let s = stands_back o (h v) i in clash s.0 s.1 s.2;
        })
          where
            clash : (s : Term) → Stands s T → h v ≡ hat θ s → ⊥
            clash (Constant c) i e = subst IsNull e isnull
            clash (Variable c) i e = subst IsNull e isnull
            clash (Null r) i e =
                let same-value : θ r ≡ θ (12 + v) = sym e ∙ sym (second_b v given) in
                ⊎_elim
                (λ t. absent (subst (λ x. Stands x T) (ap Null (solid.apart r (12 + v) t (rigid_second v given) same-value)) i))
                (λ t. clear (Null r) i (not_from_false (rigid r) t, same-value))
                (cases_Bool (rigid r))

        abbrev stray? : Term → Bool
        stray? t = flexible rigid t && same (hat θ t) (θ (12 + v))

        stray : (t : Term) × Stands t T × Stray t
        stray =
            ⊎_elim (λ s. s) (λ n. absurd (none_at (λ t i s. n (t, i, s))))
            (either (some stray? (terms_of T))
            (decides_some stray? Stray
            (λ t. Decides-and (flexible rigid t) (same (hat θ t) (θ (12 + v))) (λ e. e, λ e. e) (decides_same (hat θ t) (θ (12 + v)))) (terms_of T)))

        -- it is fresh where B is applied, so the flexible one stands in no fact there
        refine_at : (r : ℕ) × (rigid r ≡ false) × Stands (Null r) T × (Stands (Null r) (C σ old) → ⊥) × Followed A B rigid (moved r v σ) old
        refine_at =
            let z = is_flexible rigid stray.0 stray.2.0 in
            let r = z.0 in
            let spared : hat θ (Null r) ≡ h v = ap (hat θ) (sym z.1) ∙ stray.2.1 ∙ second_b v given in (
              r,
              z.2,
              subst (λ t. Stands t T) z.1 stray.1,
              λ i. w.shows.second.fresh.new v given (subst (λ t. Stands t F) spared (stands_lifts θ (C σ old) F into_before (Null r) i)),
              record {
                facts = F;
                later = H;
                first = f;
                second = h;
                other = k;
                shows = w.shows;
                good = good_replaced θ rigid σ (Null r) (Null (12 + v)) w.good (not_from_false (rigid r) z.2) (ap (hat θ) (sym z.1) ∙ stray.2.1);
                actual = w.actual;
              },
            )

  -- where every atom is old, there would be an alternative too early
  pub follow_some_new : (σ : Subst) (old : List Formula) → Each (λ b. In b old) Heads → Followed A B rigid σ old → ⊥
  follow_some_new σ old all w =
      w.shows.none w.other (record {
        agrees = w.shows.alternative.agrees;
        present = λ b i. ⊎_elim
            (λ g. subst (λ x. In x w.later) (third_under σ old w b i) (w.actual (shift_formula B b) (all (shift_formula B b) g)))
            (closed_later A B w.shows b i)
            (gone_or_closed B b i);
        spared = w.shows.alternative.spared;
        given = w.shows.alternative.given;
        absent = w.shows.alternative.absent;
      })

  -- an atom of B's head, as the alternative reads it, is old, or unified with an atom of A's head
  pub follow_split : (σ : Subst) (old : List Formula) (b : Formula) → In b (shifted B) → Followed A B rigid σ old
      → Followed A B rigid σ (old ++ (b ∷ [])) ⊎ ((a : Formula) × In a A.head × ((τ : Subst) × (unify_formulas rigid 0 12 a b σ ≡ Some τ) × Followed A B rigid τ old))
  follow_split σ old b i w = split_at σ old w b i

  pub follow_open : (σ : Subst) (old : List Formula) → Each (λ o. In o (shifted B)) old → Followed A B rigid σ old → Open A B σ old
  follow_open σ old from w = open_at σ old w from

  -- where there is an alternative too early, some null in it is one that the application gave, and stands in no fact before
  pub follow_refine : (σ : Subst) (old : List Formula) → Each (λ o. In o (shifted B)) old → Followed A B rigid σ old
      → (k : Assignment) (v : ℕ) → ((u : ℕ) → Universal B u → k u ≡ look (part σ 12) u)
      → Each (λ a. In (under k a) (later_of A B σ old)) B.head → Existential B v
      → (Stands (Null (12 + v)) (map (under k) B.head) → ⊥)
      → (r : ℕ) × (rigid r ≡ false) × Stands (Null r) (map (under k) B.head) × (Stands (Null r) (before_of B σ) → ⊥) × Followed A B rigid (moved r v σ) old
  follow_refine σ old from w k v agrees present given absent = refine_at σ old w from k v agrees present given absent

-- where no atom of B's head that is gone through has the predicate of an atom of A's head, A does not restrain B
pub no_shared : (A B : Implication) → shares? A.head (shifted B) ≡ false → Restraint A B → ⊥
no_shared A B e r =
    let w = r.shows.alternative in
    r.shows.none r.other (record {
      agrees = w.agrees;
      present = λ b i. ⊎_elim
          (λ g.
          ⊎_elim (λ j. j)
          (λ j. let z = from_map (under r.first) (under r.other b) A.head j in
          absurd (unshared A.head (shifted B) e z.0 (shift_formula B b) z.1 g (sym (ap (λ (x : Formula). x.predicate) z.2))))
          (in_either (under r.other b) r.later (map (under r.first) A.head) (w.present b i)))
          (closed_later A B r.shows b i)
          (gone_or_closed B b i);
      spared = w.spared;
      given = w.given;
      absent = w.absent;
    })
