-- What the code of the search for a restraint finds at a node, in terms of the node.
-- Assumes nothing.
use Rattle.std.proofs.Common.{◌≡◌, ℕ, ◌+◌, ◌-◌, ◌<◌, ◌≤◌, Bool, true, false, ltb, List, [], ◌∷◌, ◌++◌, map, length, get_or, take, Decides, MatchBool, sym, refl, ap, ◌∙◌, subst, ⊎_elim, arith}
use Rattle.std.proofs.lemmas.Bool.Decides.{Decides-like}
use Rattle.std.proofs.lemmas.Bool.{cases_lt, lt-ltb, le-ltb}
use Rattle.std.proofs.lemmas.List.{map-append, length-append, length-map, append_assoc, get_or-take, take-map, length-take}
use Rattle.std.proofs.lemmas.List.FromFn.{get_or-range_with_len}
use Rattle.std.specs.List.{HoldsAt, AllWithin, range_with_len}
use Rattle.rules.specs.declared.Term.{Term}
use Rattle.rules.specs.declared.Term.TheVariants.{Constant, Variable, Null}
use Rattle.rules.specs.declared.Atom.{Atom}
use Rattle.rules.specs.declared.rule.Rule.{Rule}
use Rattle.rules.specs.Logic.{Formula, formula_of, Existential}
use Rattle.rules.specs.Bounds.{body_of, head_of, flags, FlagsAre}
use Rattle.rules.specs.Matches.{Assignment, Stands, under, Satisfied, result}
use Rattle.rules.specs.Rules.{meaning}
use Rattle.rules.proofs.Membership.{in_left, decides_false}
use Rattle.matches.specs.Lists.{look, formulas, under_atom}
use Rattle.matches.proofs.Basics.{in_terms, from_terms, map_same}
use Rattle.matches.proofs.Bounded.{bounded}
use Rattle.reliances.specs.Unification.{Subst, rigid?, rigid_both, part, wide, shift_term, shift_formula, other, before_of, extra_of, later_of, HasRigid}
use Rattle.reliances.specs.RestraintSearch.{shift_by, shift_atom, laid_before, laid_extra, laid_later, SomeSpared, Open}
use Rattle.reliances.proofs.Unify.{elim_true, elim_false}
use Rattle.reliances.proofs.Slots.{decides_rigid}
use Rattle.matches.proofs.Steps.{of_under}
use Rattle.reliances.proofs.Laying.{take_first, all_under, along}
use Rattle.reliances.proofs.Nodes.{flag_below}
use Rattle.reliances.proofs.Restraint as restraint

-- what h makes of a head
pub given_is : (B : Rule) (h : Assignment) (head given : List Atom) → head ≡ head_of B.parts → given ≡ map (under_atom h) head → formulas given ≡ map (under h) (meaning B).head
given_is B h head given p e = ap formulas e ∙ all_under h head ∙ ap (λ z. map (under h) (formulas z)) p

-- the rigid slots of B, tried one after the other
module _ (rigid : List Bool) (F : List Formula) where
  abbrev pub Spared : ℕ → Type 0
  Spared r = (flags rigid r ≡ true) × (Stands (Null r) F → ⊥)

  abbrev pub Present : ℕ → Type 0
  Present r = flags rigid r ≡ true → Stands (Null r) F

  pub spared_decided : length rigid ≡ 36 → (r : Bool)
      → MatchBool r ((k : ℕ) × (k < 24) × HoldsAt Spared (range_with_len 12 24) k) (AllWithin Present (range_with_len 12 24) 0 24)
      → Decides r (SomeSpared rigid F)
  spared_decided long true z =
      let s = subst Spared (get_or-range_with_len 12 24 z.0 0 z.1) (z.2 0) in
      ((λ e. (12 + z.0, omega arith, s.0, s.1)), λ e. refl)
  spared_decided long false z =
      decides_false (λ w.
      let below : w.0 - 12 < 24 = (let l = flag_below rigid w.0 w.2 in omega (arith, w.1)) in
      let same : get_or (range_with_len 12 24) (w.0 - 12) 0 ≡ w.0 = get_or-range_with_len 12 24 (w.0 - 12) 0 below ∙ (let e : 12 + (w.0 - 12) ≡ w.0 = omega (arith, w.1) in e) in
      w.3 (subst Present same (z (w.0 - 12) 0 (omega arith) below) w.2))

module _ (A B : Rule) (σ : Subst) (old : List Atom) where
  abbrev C : List Formula
  C = before_of (meaning B) σ

  abbrev D : List Formula
  D = later_of (meaning A) (meaning B) σ (formulas old)

  pub laid_extra_lem : formulas (laid_extra A σ old) ≡ extra_of (meaning A) σ (formulas old)
  laid_extra_lem =
      map-append formula_of (map (under_atom (look (part σ 0))) (body_of A.parts)) (map (under_atom (look (wide σ))) old)
      ∙ (λ i. all_under (look (part σ 0)) (body_of A.parts) i ++ all_under (look (wide σ)) old i)

  pub laid_before_lem : formulas (laid_before B σ) ≡ C
  laid_before_lem = all_under (look (part σ 12)) (body_of B.parts)

  pub laid_later_lem : formulas (laid_later A B σ old) ≡ D
  laid_later_lem =
      map-append formula_of (laid_before B σ ++ map (under_atom (look (part σ 12))) (head_of B.parts)) (laid_extra A σ old)
      ∙ (λ i. (map-append formula_of (laid_before B σ) (map (under_atom (look (part σ 12))) (head_of B.parts)) ∙ (λ j. laid_before_lem j ++ all_under (look (part σ 12)) (head_of B.parts) j)) i ++ laid_extra_lem i)

  -- the part of a list that was laid for those that are old
  pub later_part : (all rest list : List Atom) → all ≡ old ++ rest → list ≡ laid_later A B σ all → take (length list - length rest) list ≡ laid_later A B σ old
  later_part all rest list p e =
      (λ i. take (short i) (whole i)) ∙ take_first (laid_later A B σ old) more
    where
      more : List Atom
      more = map (under_atom (look (wide σ))) rest

      whole : list ≡ laid_later A B σ old ++ more
      whole =
          e ∙ ap (laid_later A B σ) p
          ∙ ap (λ z. (laid_before B σ ++ map (under_atom (look (part σ 12))) (head_of B.parts)) ++ (map (under_atom (look (part σ 0))) (body_of A.parts) ++ z)) (map-append (under_atom (look (wide σ))) old rest)
          ∙ ap (λ z. (laid_before B σ ++ map (under_atom (look (part σ 12))) (head_of B.parts)) ++ z)
          (sym (append_assoc (map (under_atom (look (part σ 0))) (body_of A.parts)) (map (under_atom (look (wide σ))) old) more))
          ∙ sym (append_assoc (laid_before B σ ++ map (under_atom (look (part σ 12))) (head_of B.parts)) (laid_extra A σ old) more)

      short : length list - length rest ≡ length (laid_later A B σ old)
      short =
          let a = ap length whole in
          let b = length-append (laid_later A B σ old) more in
          let c = length-map rest (under_atom (look (wide σ))) in
          omega (arith, a, b, c)

  module _ (list body : List Atom) (laid : list ≡ laid_later A B σ old) (p : body ≡ body_of B.parts) where
    before-length : length (laid_before B σ) ≡ length body
    before-length = length-map (body_of B.parts) (under_atom (look (part σ 12))) ∙ ap length (sym p)

    -- the body's facts are the first of the list
    pub before_is : formulas (take (length body) list) ≡ C
    before_is =
        ap (λ n. formulas (take n list)) (sym before-length)
        ∙ ap (λ z. formulas (take (length (laid_before B σ)) z)) (laid ∙ append_assoc (laid_before B σ) (map (under_atom (look (part σ 12))) (head_of B.parts)) (laid_extra A σ old))
        ∙ ap formulas (take_first (laid_before B σ) (map (under_atom (look (part σ 12))) (head_of B.parts) ++ laid_extra A σ old)) ∙ laid_before_lem

    pub later_is : formulas list ≡ D
    later_is = ap formulas laid ∙ laid_later_lem

  module _ (rigid : List Bool) (is : FlagsAre rigid (rigid_both (meaning A) (meaning B))) where
    flag_first : (v : ℕ) → v < 12 → flags rigid v ≡ rigid? (meaning A) v
    flag_first v l = is v ∙ elim_true (ltb v 12) (rigid? (meaning A) v) (rigid? (meaning B) (v - 12)) (lt-ltb v 12 l)

    pub flag_second : (v : ℕ) → flags rigid (12 + v) ≡ rigid? (meaning B) v
    flag_second v =
        let le : 12 ≤ 12 + v = omega arith in
        let back : 12 + v - 12 ≡ v = omega arith in
        is (12 + v) ∙ elim_false (ltb (12 + v) 12) (rigid? (meaning A) (12 + v)) (rigid? (meaning B) (12 + v - 12)) (le-ltb (12 + v) 12 le) ∙ ap (rigid? (meaning B)) back

    marks : (v : ℕ) → Existential (meaning B) v → flags rigid (12 + v) ≡ true
    marks v x = flag_second v ∙ (decides_rigid (meaning B) v).1 x

    pub shift_term_lem : (t : Term) → shift_by rigid t ≡ shift_term (meaning B) t
    shift_term_lem (Constant c) = refl
    shift_term_lem (Variable v) = ap (λ (b : Bool). Variable (elim b [ true ↦ 12 + v | false ↦ v ])) (flag_second v)
    shift_term_lem (Null n) = refl

    shift_atom_lem : (a : Atom) → formula_of (shift_atom rigid a) ≡ shift_formula (meaning B) (formula_of a)
    shift_atom_lem a =
        ap (λ (z : List Term). record { predicate = a.predicate; terms = z })
        (take-map (shift_by rigid) a.arity a.terms ∙ map_same (shift_by rigid) (shift_term (meaning B)) (take a.arity a.terms) (λ t i. shift_term_lem t))

    pub shift_atoms : (xs : List Atom) → formulas (map (shift_atom rigid) xs) ≡ map (shift_formula (meaning B)) (formulas xs)
    shift_atoms [] = refl
    shift_atoms (x ∷ xs) = λ i. shift_atom_lem x i ∷ shift_atoms xs i

    other_atom : (a : Atom) → formula_of (under_atom (look (wide σ)) (shift_atom rigid a)) ≡ under (other (meaning B) σ) (formula_of a)
    other_atom a =
        of_under (look (wide σ)) (shift_atom rigid a) ∙ ap (under (look (wide σ))) (shift_atom_lem a) ∙ restraint.under_shift (meaning B) (look (wide σ)) (formula_of a)

    other_atoms : (xs : List Atom) → formulas (map (λ a. under_atom (look (wide σ)) (shift_atom rigid a)) xs) ≡ map (under (other (meaning B) σ)) (formulas xs)
    other_atoms [] = refl
    other_atoms (x ∷ xs) = λ i. other_atom x i ∷ other_atoms xs i

    -- what the alternative makes of the head
    abbrev pub O : List Formula
    O = map (under (other (meaning B) σ)) (meaning B).head

    pub other_is : (head others : List Atom) (w : List Term) → head ≡ head_of B.parts → w ≡ wide σ
        → others ≡ map (λ a. under_atom (look w) (shift_atom rigid a)) head → formulas others ≡ O
    other_is head others w p q e =
        ap formulas e ∙ (λ i. formulas (map (λ a. under_atom (look (q i)) (shift_atom rigid a)) (p i))) ∙ other_atoms (head_of B.parts)

    before_stands : (t : Term) → Stands t C → Stands t D
    before_stands t i =
        let r = from_terms t C i in
        in_terms t r.0 D
        (in_left r.0 (result (meaning B) (look (part σ 12)) C) (extra_of (meaning A) σ (formulas old)) (in_left r.0 C (map (under (look (part σ 12))) (meaning B).head) r.1)) r.2

    rigid_first_is : (r : ℕ) → r < 12 → flags rigid r ≡ true → Existential (meaning A) r
    rigid_first_is r l e = (decides_rigid (meaning A) r).0 (sym (flag_first r l) ∙ e)

    rigid_second_is : (v : ℕ) → flags rigid (12 + v) ≡ true → Existential (meaning B) v
    rigid_second_is v e = (decides_rigid (meaning B) v).0 (sym (flag_second v) ∙ e)

    -- the flags of the first rule's slots
    abbrev firsts : List Bool
    firsts = take 12 rigid

    firsts_below : (r : ℕ) → flags firsts r ≡ true → r < 12
    firsts_below r e =
        let l = flag_below firsts r e in
        let f : length firsts ≤ 12 = simp length-take (omega arith) in
        omega arith

    abbrev OpenHere : Type 0
    OpenHere = Open (meaning A) (meaning B) σ (formulas old)

    module _ (h k : List Term) (F H T : List Formula) (q : h ≡ part σ 0) (p : k ≡ part σ 12) (e : F ≡ C) (d : H ≡ D) (o : T ≡ O) where
      pub rigid_shut : HasRigid (flags rigid) F → OpenHere → ⊥
      rigid_shut z w =
          ⊎_elim
          (λ (l : z.0 < 12). w.spare_first z.0 (rigid_first_is z.0 l z.1) (before_stands (Null z.0) (subst (Stands (Null z.0)) e z.2)))
          (λ (l : 12 ≤ z.0).
          let same : z.0 ≡ 12 + (z.0 - 12) = omega arith in
          w.spare_second (z.0 - 12) (rigid_second_is (z.0 - 12) (ap (flags rigid) (sym same) ∙ z.1))
          (subst (λ n. Stands (Null n) C) same (subst (Stands (Null z.0)) e z.2)))
          (cases_lt z.0 12)

      pub second_shut : Satisfied (meaning B) (look k) F → OpenHere → ⊥
      second_shut s w = w.second (along (Satisfied (meaning B)) k (part σ 12) F C p e s)

      pub firsts_shut : HasRigid (flags firsts) H → OpenHere → ⊥
      firsts_shut z w =
          let l = firsts_below z.0 z.1 in
          w.spare_first z.0 (rigid_first_is z.0 l (sym (get_or-take 12 rigid z.0 false l) ∙ z.1)) (subst (Stands (Null z.0)) d z.2)

      pub first_shut : Satisfied (meaning A) (look h) H → OpenHere → ⊥
      first_shut s w = w.first (along (Satisfied (meaning A)) h (part σ 0) H D q d s)

      pub open_decided : (HasRigid (flags rigid) F → ⊥) → (Satisfied (meaning B) (look k) F → ⊥) → (HasRigid (flags firsts) H → ⊥) → (Satisfied (meaning A) (look h) H → ⊥)
          → (r : Bool) → Decides r (SomeSpared rigid T) → Decides r OpenHere
      open_decided spare second firsts-spare first r dec =
          Decides-like r
          (λ z. record {
            spare_second = λ v x i. spare (12 + v, marks v x, subst (Stands (Null (12 + v))) (sym e) i);
            second = λ s. second (along (Satisfied (meaning B)) (part σ 12) k C F (sym p) (sym e) s);
            spare_first = λ v x i.
                let l : v < 12 = (bounded A).head (Variable v) x.0 in
                firsts-spare (v, get_or-take 12 rigid v false l ∙ flag_first v l ∙ (decides_rigid (meaning A) v).1 x, subst (Stands (Null v)) (sym d) i);
            first = λ s. first (along (Satisfied (meaning A)) (part σ 0) h D H (sym q) (sym d) s);
            spared =
                let same : z.0 ≡ 12 + (z.0 - 12) = (let l = z.1 in omega arith) in
                (z.0 - 12, rigid_second_is (z.0 - 12) (ap (flags rigid) (sym same) ∙ z.2), λ i. z.3 (subst (λ n. Stands (Null n) T) (sym same) (subst (Stands (Null (12 + (z.0 - 12)))) (sym o) i)));
          })
          (λ w. (12 + w.spared.0, (let l : 12 ≤ 12 + w.spared.0 = omega arith in l), marks w.spared.0 w.spared.1, λ i. w.spared.2 (subst (Stands (Null (12 + w.spared.0))) o i)))
          dec
