-- The search for positive reliance: a witness that follows it to a node follows it to one of the children, and what is open at
-- the end of a path shows the reliance.
-- Assumes nothing.
use Rattle.std.proofs.Common.{◌≡◌, ℕ, ◌+◌, ◌-◌, ◌<◌, ◌≤◌, Bool, true, false, ltb, ◌⊎◌, List, [], ◌∷◌, ◌++◌, map, sym, ap, ◌∙◌, subst, inl, inr, ⊎_elim, zero-add, arith, Some}
use Rattle.std.proofs.lemmas.Bool.{cond-true, cond-false, lt-ltb, le-ltb}
use Rattle.rules.specs.declared.Term.{Term}
use Rattle.rules.specs.declared.Term.TheVariants.{Variable, Null}
use Rattle.rules.specs.Logic.{In, Each, Formula, Implication, Existential}
use Rattle.rules.specs.Matches.{Assignment, under, IsNull, Stands, Match, result, Satisfied}
use Rattle.rules.specs.Reliances.{ShowsReliance, PositiveReliance}
use Rattle.rules.proofs.Membership.{in_left, in_right, in_either}
use Rattle.matches.specs.Lists.{look, Sizes}
use Rattle.matches.proofs.Basics.{in_map, from_map, under_same}
use Rattle.matches.proofs.Bounded.{Within, Bounded, by_formula}
use Rattle.reliances.specs.Unification.{Subst, through, unify_formulas, rigid?, start, part, candidate, shares?}
use Rattle.reliances.specs.Following.{hat, slot, both, Reached}
use Rattle.reliances.specs.PositiveSearch.{Followed, Open}
use Rattle.reliances.proofs.Unify.{Slotted, slotted, Solid, unify_formulas_works}
use Rattle.reliances.proofs.Pull.{lift, Into, lift_to, stands_lifts, match_lifts, satisfied_lifts, into_map, into_both, into_more}
use Rattle.reliances.proofs.Slots.{decides_rigid, look_start, look_part, part_ground, facts_under, facts_both, each_more, unshared}
use Rattle.reliances.proofs.Reaching as reaching

both_first : (f s : Assignment) (v : ℕ) → v < 12 → both f s v ≡ f v
both_first f s v h = cond-true (ltb v 12) (f v) (s (v - 12)) (lt-ltb v 12 h)

both_second : (f s : Assignment) (v : ℕ) → both f s (12 + v) ≡ s v
both_second f s v =
    let le : 12 ≤ 12 + v = omega arith in
    let back : 12 + v - 12 ≡ v = omega arith in
    cond-false (ltb (12 + v) 12) (f (12 + v)) (s (12 + v - 12)) (le-ltb (12 + v) 12 le) ∙ ap s back

module _ (A B : Implication) (ba : Bounded A) (bb : Bounded B) (rigid : ℕ → Bool) (is_rigid : (k : ℕ) → rigid k ≡ rigid? A k) where
  rigid_is : (r : ℕ) → rigid r ≡ true → Existential A r
  rigid_is r e = (decides_rigid A r).0 (sym (is_rigid r) ∙ e)

  is_kept : (r : ℕ) → Existential A r → rigid r ≡ true
  is_kept r x = is_rigid r ∙ (decides_rigid A r).1 x

  small : (v : ℕ) → Existential A v → v < 12
  small v x = ba.head (Variable v) x.0

  body_a : Each (λ a. Each Within a.terms) A.body
  body_a = by_formula A.body ba.body

  head_a : Each (λ a. Each Within a.terms) A.head
  head_a = by_formula A.head ba.head

  body_b : Each (λ a. Each Within a.terms) B.body
  body_b = by_formula B.body bb.body

  head_b : Each (λ a. Each Within a.terms) B.head
  head_b = by_formula B.head bb.head

  slots : (a : Formula) → Each Within a.terms → Each Slotted a.terms
  slots a w t i = slotted t (w t i)

  pub slots_a : Each (λ a. Each Slotted a.terms) A.head
  slots_a a i = slots a (head_a a i)

  pub slots_b : Each (λ a. Each Slotted a.terms) B.body
  slots_b b i = slots b (body_b b i)

  pub start_keeps : (i : ℕ) → rigid i ≡ true → look start i ≡ Null i
  start_keeps i e = look_start i (let l = small i (rigid_is i e) in omega arith)

  pub follow_start : PositiveReliance A B → Followed A B rigid start []
  follow_start r = record {
    facts = r.before;
    first = r.first;
    second = r.second;
    shows = r.shows;
    good = record {
      respects = λ i l. ap (hat (both r.first r.second)) (look_start i l);
      keeps = start_keeps;
    };
    actual = λ o i. absurd i;
  }

  module _ (σ : Subst) (old : List Formula) (w : Followed A B rigid σ old) where
    abbrev F : List Formula
    F = w.facts

    abbrev f : Assignment
    f = w.first

    abbrev s : Assignment
    s = w.second

    abbrev θ : ℕ → Term
    θ = both f s

    solid : Solid θ rigid
    solid = record {
      nulls = λ r e. let x = rigid_is r e in
          subst IsNull (sym (both_first f s r (small r x))) (w.shows.first.fresh.nulls r x);
      apart = λ r q e d p.
          let x = rigid_is r e in
          let y = rigid_is q d in
          w.shows.first.fresh.apart r q x y (sym (both_first f s r (small r x)) ∙ p ∙ both_first f s q (small q y));
    }

    first_under : (a : Formula) → Each Within a.terms → under (slot θ 0) a ≡ under f a
    first_under a i = under_same (slot θ 0) f a (λ v j. ap (both f s) (zero-add v) ∙ both_first f s v (i (Variable v) j))

    second_under : (b : Formula) → under (slot θ 12) b ≡ under s b
    second_under b = under_same (slot θ 12) s b (λ v j. both_second f s v)

    abbrev Child : Formula → Type 0
    Child b = (a : Formula) × In a A.head × ((τ : Subst) × (unify_formulas rigid 0 12 a b σ ≡ Some τ) × Followed A B rigid τ old)

    split_at : (b : Formula) → In b B.body → Followed A B rigid σ (old ++ (b ∷ [])) ⊎ Child b
    split_at b i =
        ⊎_elim
        (λ j. inl (record { facts = F; first = f; second = s; shows = w.shows; good = w.good; actual = each_more (λ o. In (under s o) F) old b w.actual j }))
        (λ j.
        let r = from_map (under f) (under s b) A.head j in
        let a = r.0 in
        let u = unify_formulas_works θ rigid solid 0 12 (omega arith) (omega arith) a b σ (slots a (head_a a r.1)) (slots b (body_b b i)) w.good
        (first_under a (head_a a r.1) ∙ sym r.2 ∙ sym (second_under b)) in
        inr (a, r.1, (u.to, u.gives, record { facts = F; first = f; second = s; shows = w.shows; good = u.good; actual = w.actual })))
        (in_either (under s b) F (map (under f) A.head) (w.shows.second.matches b i))

    abbrev h_a : Assignment
    h_a = look (part σ 0)

    abbrev h_b : Assignment
    h_b = look (part σ 12)

    abbrev C : List Formula
    C = candidate A σ old

    respect_first : (v : ℕ) → v < 12 → hat θ (h_a v) ≡ f v
    respect_first v l = ap (hat θ) (look_part σ 0 v l ∙ ap (look σ) (zero-add v)) ∙ w.good.respects v (omega arith) ∙ both_first f s v l

    respect_second : (v : ℕ) → v < 12 → hat θ (h_b v) ≡ s v
    respect_second v l = ap (hat θ) (look_part σ 12 v l) ∙ w.good.respects (12 + v) (omega arith) ∙ both_second f s v

    first_lift : (a : Formula) → Each Within a.terms → lift θ (under h_a a) ≡ under f a
    first_lift a i = lift_to θ h_a f a i (λ v j. respect_first v (i (Variable v) j))

    second_lift : (b : Formula) → Each Within b.terms → lift θ (under h_b b) ≡ under s b
    second_lift b i = lift_to θ h_b s b i (λ v j. respect_second v (i (Variable v) j))

    into : Each (λ o. In o B.body) old → Into θ C F
    into from =
        into_both θ (map (under h_a) A.body) (map (under h_b) old) F
        (into_map θ h_a f A.body F (λ a i. first_lift a (body_a a i)) w.shows.first.unsatisfied.matches)
        (into_map θ h_b s old F (λ b i. second_lift b (body_b b (from b i))) w.actual)

    abbrev G : List Formula
    G = result A f F

    -- all of B's body atoms are in G, be they old or new
    into_result : (bs : List Formula) → Each (λ o. In o B.body) bs → Into θ (result A h_a (candidate A σ bs)) G
    into_result bs from =
        into_both θ (candidate A σ bs) (map (under h_a) A.head) G
        (into_both θ (map (under h_a) A.body) (map (under h_b) bs) G
        (into_more θ (map (under h_a) A.body) F G (into_map θ h_a f A.body F (λ a i. first_lift a (body_a a i)) w.shows.first.unsatisfied.matches)
        (λ x i. in_left x F (map (under f) A.head) i))
        (into_map θ h_b s bs G (λ b i. second_lift b (body_b b (from b i))) (λ b i. w.shows.second.matches b (from b i))))
        (into_map θ h_a f A.head G (λ a i. first_lift a (head_a a i)) (λ a i. in_right (under f a) F (map (under f) A.head) (in_map (under f) a A.head i)))

    unsatisfied_at : (bs : List Formula) → Each (λ o. In o B.body) bs → Satisfied B h_b (result A h_a (candidate A σ bs)) → ⊥
    unsatisfied_at bs from z =
        w.shows.second.missing
        (satisfied_lifts θ (result A h_a (candidate A σ bs)) G (into_result bs from) B h_b s head_b (λ v u. respect_second v (bb.body (Variable v) u)) z)

    open_at : Each (λ o. In o B.body) old → Open A B rigid σ old
    open_at from = record {
      free = record {
        spare = λ r e i.
            let x = rigid_is r e in
            w.shows.first.fresh.new r x (subst (λ t. Stands t F) (both_first f s r (small r x)) (stands_lifts θ C F (into from) (Null r) i));
        first = λ z. w.shows.first.unsatisfied.missing
            (satisfied_lifts θ C F (into from) A h_a f head_a (λ v u. respect_first v (ba.body (Variable v) u)) z);
        new = λ z. w.shows.new (match_lifts θ C F (into from) B h_b s (λ b i. second_lift b (body_b b i)) z);
      };
      second = unsatisfied_at old from;
    }

  -- an atom of B's body is old, or unified with an atom of A's head
  pub follow_split : (σ : Subst) (old : List Formula) (b : Formula) → In b B.body → Followed A B rigid σ old
      → Followed A B rigid σ (old ++ (b ∷ [])) ⊎ ((a : Formula) × In a A.head × ((τ : Subst) × (unify_formulas rigid 0 12 a b σ ≡ Some τ) × Followed A B rigid τ old))
  follow_split σ old b i w = split_at σ old w b i

  pub follow_open : (σ : Subst) (old : List Formula) → Each (λ o. In o B.body) old → Followed A B rigid σ old → Open A B rigid σ old
  follow_open σ old from w = open_at σ old w from

  -- B's match is unsatisfied on the result, where any of its body atoms are taken for old
  pub follow_unsatisfied : (σ : Subst) (old bs : List Formula) → Each (λ o. In o B.body) bs → Followed A B rigid σ old
      → Satisfied B (look (part σ 12)) (result A (look (part σ 0)) (candidate A σ bs)) → ⊥
  follow_unsatisfied σ old bs from w = unsatisfied_at σ old w bs from

  abbrev ReachedHere : Subst → List Formula → List Formula → Type 0
  ReachedHere = Reached A.head B.body rigid

  pub reach_start : ReachedHere start [] B.body
  reach_start = reaching.reach_start A.head B.body slots_a slots_b rigid start_keeps

  pub reach_old : (σ : Subst) (old : List Formula) (b : Formula) (rest : List Formula) → ReachedHere σ old (b ∷ rest) → ReachedHere σ (old ++ (b ∷ [])) rest
  reach_old = reaching.reach_old A.head B.body slots_a slots_b rigid

  pub reach_new : (σ τ : Subst) (old : List Formula) (b : Formula) (rest : List Formula) (a : Formula) → In a A.head
      → unify_formulas rigid 0 12 a b σ ≡ Some τ → ReachedHere σ old (b ∷ rest) → ReachedHere τ old rest
  reach_new = reaching.reach_new A.head B.body slots_a slots_b rigid

  pub reach_shows : Sizes A → Sizes B → (σ : Subst) (old : List Formula) → ReachedHere σ old [] → Open A B rigid σ old
      → ShowsReliance A B (candidate A σ old) (look (part σ 0)) (look (part σ 12))
  reach_shows sa sb σ old r o = record {
    facts =
        facts_both (map (under h_a) A.body) (map (under h_b) old)
        (facts_under h_a Within (part_ground σ r.ground 0) A.body body_a sa.body)
        (facts_under h_b Within (part_ground σ r.ground 12) old (λ b i. body_b b (r.old_from b i)) (λ b i. sb.body b (r.old_from b i)));
    first = record {
      unsatisfied = record {
        matches = λ a i. in_left (under h_a a) (map (under h_a) A.body) (map (under h_b) old) (in_map (under h_a) a A.body i);
        missing = o.free.first;
      };
      fresh = record {
        nulls = λ v x. subst IsNull (sym (kept v x)) tt;
        new = λ v x i. o.free.spare v (is_kept v x) (subst (λ t. Stands t C) (kept v x) i);
        apart = λ v u x y e. cc (kept v x, kept u y);
      };
    };
    second = record { matches = second_covered; missing = o.second };
    new = o.free.new;
  }
    where
      h_a : Assignment
      h_a = look (part σ 0)

      h_b : Assignment
      h_b = look (part σ 12)

      C : List Formula
      C = candidate A σ old

      kept : (v : ℕ) → Existential A v → look (part σ 0) v ≡ Null v
      kept v x = look_part σ 0 v (small v x) ∙ ap (look σ) (zero-add v) ∙ r.keeps v (is_kept v x)

      under_first : (a : Formula) → Each Within a.terms → under h_a a ≡ under (through σ 0) a
      under_first a w = under_same h_a (through σ 0) a (λ v j. look_part σ 0 v (w (Variable v) j))

      under_second : (a : Formula) → Each Within a.terms → under h_b a ≡ under (through σ 12) a
      under_second a w = under_same h_b (through σ 12) a (λ v j. look_part σ 12 v (w (Variable v) j))

      second_covered : Match B (look (part σ 12)) (result A (look (part σ 0)) (candidate A σ old))
      second_covered b i =
          ⊎_elim (λ j. absurd j)
          (λ j. ⊎_elim
          (λ k. in_left (under h_b b) C (map (under h_a) A.head)
          (in_right (under h_b b) (map (under h_a) A.body) (map (under h_b) old) (in_map (under h_b) b old k)))
          (λ z. in_right (under h_b b) C (map (under h_a) A.head)
          (subst (λ x. In x (map (under h_a) A.head))
          (under_first z.0 (head_a z.0 z.1) ∙ z.2 ∙ sym (under_second b (body_b b i)))
          (in_map (under h_a) z.0 A.head z.1)))
          j)
          (r.covers b i)

-- where no atom of B's body has the predicate of an atom of A's head, B does not rely on A
pub no_shared : (A B : Implication) → shares? A.head B.body ≡ false → PositiveReliance A B → ⊥
no_shared A B e r = r.shows.new (λ b i.
    ⊎_elim (λ j. j)
    (λ j. let z = from_map (under r.first) (under r.second b) A.head j in
    absurd (unshared A.head B.body e z.0 b z.1 i (sym (ap (λ (x : Formula). x.predicate) z.2))))
    (in_either (under r.second b) r.before (map (under r.first) A.head) (r.shows.second.matches b i)))
