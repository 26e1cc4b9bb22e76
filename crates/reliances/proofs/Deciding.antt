-- The two searches as functions that decide: small, made to be computed on small rules.
-- Assumes nothing.
use Rattle.std.proofs.Common.{◌≡◌, ℕ, zero, suc, ◌+◌, ◌<◌, ◌≤◌, Bool, true, false, not, ◌&&◌, ◌⊎◌, List, [], ◌∷◌, ◌++◌, map, Some, None, Decides, Option, sym, refl, ap, ◌∙◌, subst, inl, inr, ⊎_elim, arith}
use Rattle.std.proofs.lemmas.Bool.Decides.{Decides-and, Decides-not, Decides-like}
use Rattle.std.proofs.lemmas.Bool.{false≢true, cases_lt}
use Rattle.rules.specs.declared.Term.{Term}
use Rattle.rules.specs.declared.Term.TheVariants.{Constant, Variable, Null}
use Rattle.rules.specs.Logic.{In, Each, Formula, Implication, terms_of, Existential}
use Rattle.rules.specs.Bounds.{existential?}
use Rattle.rules.specs.Matches.{Assignment, under, Stands, result}
use Rattle.rules.specs.Reliances.{Alternative, ShowsReliance, PositiveReliance, Restraint}
use Rattle.rules.proofs.Membership.{existential_decided}
use Rattle.matches.specs.Lists.{look, Spares, Sizes}
use Rattle.matches.specs.Matching.{Slots, solve, bound, filled, pick, facts?, matches?, satisfied?, applies?, sparing, chosen?}
use Rattle.matches.proofs.Basics.{from_map, in_terms, from_terms}
use Rattle.matches.proofs.Bounded.{Bounded, by_formula}
use Rattle.matches.proofs.Matching.{Agrees, Right, solve_right, Long, solve_long}
use Rattle.matches.proofs.Literal.{decides_matches, decides_facts, decides_satisfied, decides_applies, is_slots}
use Rattle.matches.proofs.Alternatives.{decides_chosen, spares_from, spares_to, its_spared}
use Rattle.reliances.specs.Unification.{Subst, unify_formulas, rigid?, rigid_both, start, part, other, moved, loose_count, candidate, before_of, later_of}
use Rattle.reliances.specs.Following.{Reached}
use Rattle.reliances.specs.PositiveSearch as ps
use Rattle.reliances.specs.RestraintSearch as rs
use Rattle.reliances.specs.RestraintSearch.{shifted}
use Rattle.reliances.proofs.Positive as positive
use Rattle.reliances.proofs.Restraint as restraint

-- some element passes, where what comes after it is not computed
abbrev any : {A : Type 0} → (A → Bool) → List A → Bool
any p [] = false
any p (x ∷ xs) = elim (p x) [ true ↦ true | false ↦ any p xs ]

or_from : (b c : Bool) → ◌≡◌ {A = Bool} (elim b [ true ↦ true | false ↦ c ]) true → (b ≡ true) ⊎ (c ≡ true)
or_from true c e = inl refl
or_from false c e = inr e

or_left : (b c : Bool) → b ≡ true → ◌≡◌ {A = Bool} (elim b [ true ↦ true | false ↦ c ]) true
or_left true c e = refl
or_left false c e = absurd (false≢true e)

or_right : (b c : Bool) → c ≡ true → ◌≡◌ {A = Bool} (elim b [ true ↦ true | false ↦ c ]) true
or_right true c e = refl
or_right false c e = e

any_from : {A : Type 0} (p : A → Bool) (xs : List A) → any p xs ≡ true → (x : A) × In x xs × (p x ≡ true)
any_from p [] e = absurd (false≢true e)
any_from p (x ∷ xs) e =
    ⊎_elim (λ q. (x, inl refl, q)) (λ q. let r = any_from p xs q in (r.0, inr r.1, r.2)) (or_from (p x) (any p xs) e)

any_in : {A : Type 0} (p : A → Bool) (x : A) (xs : List A) → In x xs → p x ≡ true → any p xs ≡ true
any_in p x [] i e = absurd i
any_in p x (y ∷ ys) (inl q) e = or_left (p y) (any p ys) (ap p (sym q) ∙ e)
any_in p x (y ∷ ys) (inr i) e = or_right (p y) (any p ys) (any_in p x ys i e)

-- the result passes
abbrev given : (Subst → Bool) → Option Subst → Bool
given k None = false
given k (Some τ) = k τ

given_from : (k : Subst → Bool) (o : Option Subst) → given k o ≡ true → (τ : Subst) × (k τ ≡ true)
given_from k None e = absurd (false≢true e)
given_from k (Some τ) e = (τ, e)

-- each atom is unified with one of heads or left old, so that the end passes
module _ (rigid : ℕ → Bool) (heads : List Formula) (leaf : Subst → List Formula → Bool) where
  abbrev ways? : List Formula → Subst → List Formula → Bool
  ways? [] σ old = leaf σ old
  ways? (b ∷ bs) σ old =
      elim (any (λ a. given (λ τ. ways? bs τ old) (unify_formulas rigid 0 12 a b σ)) heads) [ true ↦ true | false ↦ ways? bs σ (old ++ (b ∷ [])) ]

  ways_sound : (bs : List Formula) (σ : Subst) (old : List Formula) → ways? bs σ old ≡ true → (τ : Subst) × (left : List Formula) × (leaf τ left ≡ true)
  ways_sound [] σ old e = (σ, old, e)
  ways_sound (b ∷ bs) σ old e =
      let step = λ (a : Formula). given (λ τ. ways? bs τ old) (unify_formulas rigid 0 12 a b σ) in
      ⊎_elim
      (λ q.
      let r = any_from step heads q in
      let s = given_from (λ τ. ways? bs τ old) (unify_formulas rigid 0 12 r.0 b σ) r.2 in
      ways_sound bs s.0 old s.1)
      (λ q. ways_sound bs σ (old ++ (b ∷ [])) q)
      (or_from (any step heads) (ways? bs σ (old ++ (b ∷ []))) e)

  -- a witness that follows to one of the children, and passes at the end, is found
  module _ (all : List Formula) (Followed : Subst → List Formula → Type 0) (Reached : Subst → List Formula → List Formula → Type 0)
      (from : (σ : Subst) (old rest : List Formula) → Reached σ old rest → Each (λ o. In o all) rest)
      (split : (σ : Subst) (old : List Formula) (b : Formula) → In b all → Followed σ old
      → Followed σ (old ++ (b ∷ [])) ⊎ ((a : Formula) × In a heads × ((τ : Subst) × (unify_formulas rigid 0 12 a b σ ≡ Some τ) × Followed τ old)))
      (reach_old : (σ : Subst) (old : List Formula) (b : Formula) (rest : List Formula) → Reached σ old (b ∷ rest) → Reached σ (old ++ (b ∷ [])) rest)
      (reach_new : (σ τ : Subst) (old : List Formula) (b : Formula) (rest : List Formula) (a : Formula) → In a heads
      → unify_formulas rigid 0 12 a b σ ≡ Some τ → Reached σ old (b ∷ rest) → Reached τ old rest)
      (end : (σ : Subst) (old : List Formula) → Reached σ old [] → Followed σ old → leaf σ old ≡ true) where
    ways_complete : (bs : List Formula) (σ : Subst) (old : List Formula) → Reached σ old bs → Followed σ old → ways? bs σ old ≡ true
    ways_complete [] σ old r w = end σ old r w
    ways_complete (b ∷ bs) σ old r w =
        let step = λ (a : Formula). given (λ τ. ways? bs τ old) (unify_formulas rigid 0 12 a b σ) in
        ⊎_elim
        (λ v. or_right (any step heads) (ways? bs σ (old ++ (b ∷ []))) (ways_complete bs σ (old ++ (b ∷ [])) (reach_old σ old b bs r) v))
        (λ z.
        let τ = z.2.0 in
        or_left (any step heads) (ways? bs σ (old ++ (b ∷ [])))
        (any_in step z.0 heads z.1
        (ap (given (λ τ. ways? bs τ old)) z.2.1 ∙ ways_complete bs τ old (reach_new σ τ old b bs z.0 z.1 z.2.1 r) z.2.2)))
        (split σ old b (from σ old (b ∷ bs) r b (inl refl)) w)

-- the literal test of positive reliance
abbrev shows? : Implication → Implication → List Formula → Assignment → Assignment → Bool
shows? A B F f s =
    facts? F
    && (applies? A f F && (matches? B.body s (result A f F) && (not (satisfied? B s (result A f F)) && not (matches? B.body s F))))

decides_shows : (A B : Implication) → Bounded A → Bounded B → (F : List Formula) (f s : Assignment) → Decides (shows? A B F f s) (ShowsReliance A B F f s)
decides_shows A B ba bb F f s =
    let G = result A f F in
    Decides-like (shows? A B F f s)
    (λ e. record { facts = e.0; first = e.1.0; second = record { matches = e.1.1.0; missing = e.1.1.1.0 }; new = e.1.1.1.1 })
    (λ w. (w.facts, (w.first, (w.second.matches, (w.second.missing, w.new)))))
    (Decides-and (facts? F) _ (decides_facts F)
    (Decides-and (applies? A f F) _ (decides_applies A ba f F)
    (Decides-and (matches? B.body s G) _ (decides_matches B.body s G)
    (Decides-and (not (satisfied? B s G)) _ (Decides-not (satisfied? B s G) (decides_satisfied B bb s G))
    (Decides-not (matches? B.body s F) (decides_matches B.body s F))))))

abbrev leaf? : Implication → Implication → Subst → List Formula → Bool
leaf? A B σ old = shows? A B (candidate A σ old) (look (part σ 0)) (look (part σ 12))

-- whether B positively relies on A
abbrev pub relies? : Implication → Implication → Bool
relies? A B = ways? (rigid? A) A.head (leaf? A B) B.body start []

pub decides_relies : (A B : Implication) → Bounded A → Bounded B → Sizes A → Sizes B → Decides (relies? A B) (PositiveReliance A B)
decides_relies A B ba bb sa sb = (sound, complete)
  where
    is_rigid : (k : ℕ) → rigid? A k ≡ rigid? A k
    is_rigid k = refl

    sound : relies? A B ≡ true → PositiveReliance A B
    sound e =
        let r = ways_sound (rigid? A) A.head (leaf? A B) B.body start [] e in
        record {
          before = candidate A r.0 r.1;
          first = look (part r.0 0);
          second = look (part r.0 12);
          shows = (decides_shows A B ba bb (candidate A r.0 r.1) (look (part r.0 0)) (look (part r.0 12))).0 r.2;
        }

    complete : PositiveReliance A B → relies? A B ≡ true
    complete w =
        ways_complete (rigid? A) A.head (leaf? A B) B.body
        (ps.Followed A B (rigid? A)) (Reached A.head B.body (rigid? A))
        (λ σ old rest r. r.rest_from)
        (positive.follow_split A B ba bb (rigid? A) is_rigid)
        (positive.reach_old A B ba bb (rigid? A) is_rigid)
        (positive.reach_new A B ba bb (rigid? A) is_rigid)
        (λ σ old r v. (decides_shows A B ba bb (candidate A σ old) (look (part σ 0)) (look (part σ 12))).1
        (positive.reach_shows A B ba bb (rigid? A) is_rigid sa sb σ old r (positive.follow_open A B ba bb (rigid? A) is_rigid σ old r.old_from v)))
        B.body start []
        (positive.reach_start A B ba bb (rigid? A) is_rigid) (positive.follow_start A B ba bb (rigid? A) is_rigid w)

-- an assignment that spares the null of v, if there is one
abbrev find : Implication → Assignment → List Formula → ℕ → Option Slots
find R h S v = elim (existential? R v) [ true ↦ solve (sparing (h v) S) R.head (bound R h) | false ↦ None ]

-- the same for the variables below n
abbrev early : Implication → Assignment → List Formula → ℕ → Option (ℕ × Slots)
early R h S zero = None
early R h S (suc n) = elim (find R h S n) [ None ↦ early R h S n | Some q ↦ Some (n, q) ]

module _ (R : Implication) (b : Bounded R) (h : Assignment) (S : List Formula) where
  abbrev Found : ℕ → Option Slots → Type 0
  Found v None = (k : Assignment) → Spares R h S v k → ⊥
  Found v (Some q) = Spares R h S v (filled q h)

  solved : (v : ℕ) → Existential R v → (o : Option Slots) → Long 12 o
      → ((k : Assignment) → Right k o (Agrees k (bound R h) × Each (λ a. In (under k a) (sparing (h v) S)) R.head)) → Found v o
  solved v x None l r = λ k s.
      r k (((is_slots R b h).long, λ u t q. let z = (is_slots R b h).from u t q in s.agrees u z.0 ∙ sym z.1), spares_to R h S v k s)
  solved v x (Some q) l r =
      let k = filled q h in
      let z = r k (l, λ u t e. ap (λ o. pick o (h u)) e) in
      spares_from R h S v k x (λ u y. z.0.1 u (h u) ((is_slots R b h).at u y (b.body (Variable u) y))) z.1

  is_found : (v : ℕ) → Found v (find R h S v)
  is_found v = at (existential? R v) (existential_decided R v)
    where
      at : (x : Bool) → Decides x (Existential R v) → Found v (elim x [ true ↦ solve (sparing (h v) S) R.head (bound R h) | false ↦ None ])
      at false d = λ k s. false≢true (d.1 s.given)
      at true d =
          solved v (d.0 refl) (solve (sparing (h v) S) R.head (bound R h))
          (solve_long 12 (sparing (h v) S) R.head (bound R h) (is_slots R b h).long)
          (λ k. solve_right k (sparing (h v) S) R.head (bound R h) (by_formula R.head b.head))

  abbrev Early : ℕ → Option (ℕ × Slots) → Type 0
  Early n None = (v : ℕ) → v < n → (k : Assignment) → Spares R h S v k → ⊥
  Early n (Some w) = Spares R h S w.0 (filled w.1 h)

  is_early : (n : ℕ) → Early n (early R h S n)
  is_early zero = λ v l. absurd (omega arith)
  is_early (suc n) = at (find R h S n) (early R h S n) (is_found n) (is_early n)
    where
      more : (o : Option (ℕ × Slots)) → Found n None → Early n o → Early (suc n) o
      more None f e = λ v l k s. ⊎_elim (λ (g : v < n). e v g k s)
          (λ (g : n ≤ v). let same_number : v ≡ n = omega arith in f k (subst (λ u. Spares R h S u k) same_number s)) (cases_lt v n)
      more (Some w) f e = e

      at : (o : Option Slots) (p : Option (ℕ × Slots)) → Found n o → Early n p → Early (suc n) (elim o [ None ↦ p | Some q ↦ Some (n, q) ])
      at None p f e = more p f e
      at (Some q) p f e = f

  early_none : Early 12 None → (k : Assignment) → Alternative R h S k → ⊥
  early_none e k a = e a.spared (b.head (Variable a.spared) a.given.0) k (its_spared R h S k a)

-- the literal test of all but that there is no alternative too early
abbrev ready? : Implication → Implication → Subst → List Formula → Bool
ready? A B σ old =
    facts? (before_of B σ) && (applies? B (look (part σ 12)) (before_of B σ) && (facts? (later_of A B σ old)
    && (applies? A (look (part σ 0)) (later_of A B σ old)
    && chosen? B (look (part σ 12)) (other B σ) (result A (look (part σ 0)) (later_of A B σ old)))))

decides_ready : (A B : Implication) → Bounded A → Bounded B → (σ : Subst) (old : List Formula) → Decides (ready? A B σ old) (restraint.Ready A B σ old)
decides_ready A B ba bb σ old =
    Decides-like (ready? A B σ old)
    (λ e. record { facts = e.0; second = e.1.0; later = e.1.1.0; first = e.1.1.1.0; alternative = e.1.1.1.1 })
    (λ w. (w.facts, (w.second, (w.later, (w.first, w.alternative)))))
    (Decides-and (facts? (before_of B σ)) _ (decides_facts (before_of B σ))
    (Decides-and (applies? B (look (part σ 12)) (before_of B σ)) _ (decides_applies B bb (look (part σ 12)) (before_of B σ))
    (Decides-and (facts? (later_of A B σ old)) _ (decides_facts (later_of A B σ old))
    (Decides-and (applies? A (look (part σ 0)) (later_of A B σ old)) _ (decides_applies A ba (look (part σ 0)) (later_of A B σ old))
    (decides_chosen B bb (look (part σ 12)) (other B σ) (result A (look (part σ 0)) (later_of A B σ old)))))))

-- the number of a null that is flexible passes
abbrev loose? : (ℕ → Bool) → (ℕ → Bool) → Term → Bool
loose? rigid p (Constant c) = false
loose? rigid p (Variable v) = false
loose? rigid p (Null r) = elim (rigid r) [ true ↦ false | false ↦ p r ]

loose_from : (rigid p : ℕ → Bool) (t : Term) → loose? rigid p t ≡ true → (r : ℕ) × (p r ≡ true)
loose_from rigid p (Constant c) e = absurd (false≢true e)
loose_from rigid p (Variable v) e = absurd (false≢true e)
loose_from rigid p (Null r) e = (r, at (rigid r) e)
  where
    at : (x : Bool) → ◌≡◌ {A = Bool} (elim x [ true ↦ false | false ↦ p r ]) true → p r ≡ true
    at true q = absurd (false≢true q)
    at false q = q

loose_in : (rigid p : ℕ → Bool) (r : ℕ) → rigid r ≡ false → p r ≡ true → loose? rigid p (Null r) ≡ true
loose_in rigid p r f e = at (rigid r) f
  where
    at : (x : Bool) → x ≡ false → ◌≡◌ {A = Bool} (elim x [ true ↦ false | false ↦ p r ]) true
    at true q = absurd (false≢true (sym q))
    at false q = e

-- nothing passes unless x does; then what is found decides
abbrev step : Bool → Option (ℕ × Slots) → (ℕ × Slots → Bool) → Bool
step x o g = elim x [ false ↦ false | true ↦ elim o [ None ↦ true | Some w ↦ g w ] ]

step_sound : (x : Bool) (o : Option (ℕ × Slots)) (g : ℕ × Slots → Bool) → step x o g ≡ true → (x ≡ true) × ((o ≡ None) ⊎ ((w : ℕ × Slots) × (g w ≡ true)))
step_sound false o g e = absurd (false≢true e)
step_sound true None g e = (refl, inl refl)
step_sound true (Some w) g e = (refl, inr (w, e))

step_complete : (x : Bool) (o : Option (ℕ × Slots)) (g : ℕ × Slots → Bool) → x ≡ true → ((w : ℕ × Slots) → o ≡ Some w → g w ≡ true) → step x o g ≡ true
step_complete false o g e f = absurd (false≢true e)
step_complete true None g e f = refl
step_complete true (Some w) g e f = f w refl

-- the first alternative that is there too early
abbrev too_early : Implication → Implication → Subst → List Formula → Option (ℕ × Slots)
too_early A B σ old = early B (look (part σ 12)) (later_of A B σ old) 12

-- nulls of an alternative that is there too early become the one that it spares, at most n times
abbrev settle : Implication → Implication → ℕ → List Formula → Subst → Bool
settle A B zero old σ = elim (ready? A B σ old) [ false ↦ false | true ↦ elim (too_early A B σ old) [ None ↦ true | Some w ↦ false ] ]
settle A B (suc n) old σ =
    elim (ready? A B σ old) [
      | false ↦ false
      | true ↦
          elim (too_early A B σ old) [
            | None ↦ true
            | Some w ↦
                any (loose? (rigid_both A B) (λ r. settle A B n old (moved r w.0 σ))) (terms_of (map (under (filled w.1 (look (part σ 12)))) B.head))
          ]
    ]

abbrev end? : Implication → Implication → Subst → List Formula → Bool
end? A B σ old = settle A B (loose_count (rigid_both A B) σ) old σ

-- whether A restrains B
abbrev pub restrains? : Implication → Implication → Bool
restrains? A B = ways? (rigid_both A B) A.head (end? A B) (shifted B) start []

module _ (A B : Implication) (ba : Bounded A) (bb : Bounded B) (sa : Sizes A) (sb : Sizes B) where
  shown : (old : List Formula) (σ : Subst) → ready? A B σ old ≡ true → too_early A B σ old ≡ None → Restraint A B
  shown old σ e n = record {
    before = before_of B σ;
    later = later_of A B σ old;
    first = look (part σ 0);
    second = look (part σ 12);
    other = other B σ;
    shows = restraint.ready_shows A B σ old ((decides_ready A B ba bb σ old).0 e)
        (early_none B bb (look (part σ 12)) (later_of A B σ old)
        (subst (Early B bb (look (part σ 12)) (later_of A B σ old) 12) n (is_early B bb (look (part σ 12)) (later_of A B σ old) 12)));
  }

  settle_sound : (n : ℕ) (old : List Formula) (σ : Subst) → settle A B n old σ ≡ true → Restraint A B
  settle_sound zero old σ e =
      let s = step_sound (ready? A B σ old) (too_early A B σ old) (λ w. false) e in
      ⊎_elim (λ q. shown old σ s.0 q) (λ q. absurd (false≢true q.1)) s.1
  settle_sound (suc n) old σ e =
      let tries = λ (w : ℕ × Slots). terms_of (map (under (filled w.1 (look (part σ 12)))) B.head) in
      let next = λ (w : ℕ × Slots). loose? (rigid_both A B) (λ r. settle A B n old (moved r w.0 σ)) in
      let s = step_sound (ready? A B σ old) (too_early A B σ old) (λ w. any (next w) (tries w)) e in
      ⊎_elim (λ q. shown old σ s.0 q)
      (λ q.
      let t = any_from (next q.0) (tries q.0) q.1 in
      let r = loose_from (rigid_both A B) (λ r. settle A B n old (moved r q.0.0 σ)) t.0 t.2 in
      settle_sound n old (moved r.0 q.0.0 σ) r.1)
      s.1

  abbrev rigid : ℕ → Bool
  rigid = rigid_both A B

  is_rigid : (k : ℕ) → rigid k ≡ rigid_both A B k
  is_rigid k = refl

  abbrev Followed : Subst → List Formula → Type 0
  Followed = rs.Followed A B rigid

  abbrev ReachedHere : Subst → List Formula → List Formula → Type 0
  ReachedHere = Reached A.head (shifted B) rigid

  is_ready : (σ : Subst) (old : List Formula) → ReachedHere σ old [] → Followed σ old → ready? A B σ old ≡ true
  is_ready σ old r v =
      (decides_ready A B ba bb σ old).1
      (restraint.reach_ready A B ba bb rigid is_rigid sa sb σ old r (restraint.follow_open A B ba bb rigid is_rigid σ old r.old_from v))

  -- a null of the alternative that is there too early, and the witness after it has become another
  record Moved (σ : Subst) (old : List Formula) (w : ℕ × Slots) : Type 0 where
    number : ℕ
    flexes : rigid number ≡ false
    member : Stands (Null number) (map (under (filled w.1 (look (part σ 12)))) B.head)
    reached : ReachedHere (moved number w.0 σ) old []
    followed : Followed (moved number w.0 σ) old
    falls : loose_count rigid (moved number w.0 σ) < loose_count rigid σ

  moves : (σ : Subst) (old : List Formula) (w : ℕ × Slots) → too_early A B σ old ≡ Some w → ReachedHere σ old [] → Followed σ old → Moved σ old w
  moves σ old w e r v =
      let h = look (part σ 12) in
      let k = filled w.1 h in
      let s : Spares B h (later_of A B σ old) w.0 k = subst (Early B bb h (later_of A B σ old) 12) e (is_early B bb h (later_of A B σ old) 12) in
      let kept : h w.0 ≡ Null (12 + w.0) = restraint.reach_null A B ba bb rigid is_rigid σ old [] r w.0 s.given in
      let z = restraint.follow_refine A B ba bb rigid is_rigid σ old r.old_from v k w.0 s.agrees s.present s.given
      (λ i. s.absent (subst (λ t. Stands t (map (under k) B.head)) (sym kept) i)) in
      record {
        number = z.0;
        flexes = z.1;
        member = z.2;
        reached = restraint.reach_moved A B ba bb rigid is_rigid σ old [] z.0 w.0 z.1 s.given r;
        followed = z.4;
        falls = restraint.count_falls A B ba bb rigid is_rigid σ z.0 w.0 z.1 s.given
            (restraint.null_slot A B ba bb rigid is_rigid σ old [] r z.0 (in_facts k (later_of A B σ old) s.present (Null z.0) z.2));
      }
    where
      in_facts : (k : Assignment) (D : List Formula) → Each (λ a. In (under k a) D) B.head → (t : Term) → Stands t (map (under k) B.head) → Stands t D
      in_facts k D present t i =
          let p = from_terms t (map (under k) B.head) i in
          let q = from_map (under k) p.0 B.head p.1 in
          in_terms t p.0 D (subst (λ x. In x D) (sym q.2) (present q.0 q.1)) p.2

  settle_complete : (n : ℕ) (old : List Formula) (σ : Subst) → loose_count rigid σ ≤ n → ReachedHere σ old [] → Followed σ old → settle A B n old σ ≡ true
  settle_complete zero old σ l r v =
      step_complete (ready? A B σ old) (too_early A B σ old) (λ w. false) (is_ready σ old r v)
      (λ w e. let m = moves σ old w e r v in let f = m.falls in absurd (omega arith))
  settle_complete (suc n) old σ l r v =
      let tries = λ (w : ℕ × Slots). terms_of (map (under (filled w.1 (look (part σ 12)))) B.head) in
      let next = λ (w : ℕ × Slots). loose? rigid (λ r. settle A B n old (moved r w.0 σ)) in
      step_complete (ready? A B σ old) (too_early A B σ old) (λ w. any (next w) (tries w)) (is_ready σ old r v)
      (λ w e.
      let m = moves σ old w e r v in
      let f = m.falls in
      any_in (next w) (Null m.number) (tries w) m.member
      (loose_in rigid (λ r. settle A B n old (moved r w.0 σ)) m.number m.flexes
      (settle_complete n old (moved m.number w.0 σ) (omega arith) m.reached m.followed)))

  pub decides_restrains : Decides (restrains? A B) (Restraint A B)
  decides_restrains = (sound, complete)
    where
      sound : restrains? A B ≡ true → Restraint A B
      sound e =
          let r = ways_sound (rigid_both A B) A.head (end? A B) (shifted B) start [] e in
          settle_sound (loose_count (rigid_both A B) r.0) r.1 r.0 r.2

      complete : Restraint A B → restrains? A B ≡ true
      complete w =
          ways_complete rigid A.head (end? A B) (shifted B) Followed ReachedHere
          (λ σ old rest r. r.rest_from)
          (restraint.follow_split A B ba bb rigid is_rigid)
          (restraint.reach_old A B ba bb rigid is_rigid)
          (restraint.reach_new A B ba bb rigid is_rigid)
          (λ σ old r v. settle_complete (loose_count rigid σ) old σ (omega arith) r v)
          (shifted B) start []
          (restraint.reach_start A B ba bb rigid is_rigid) (restraint.follow_start A B ba bb rigid is_rigid w)
