-- The end of a way of the search for a restraint: what it shows, and how alternatives that come too early are refined away.
-- Assumes nothing.
use Rattle.std.proofs.Common.{◌≡◌, ℕ, ◌+◌, ◌<◌, ◌≤◌, Bool, false, List, [], ◌++◌, map, length, sym, ap, ◌∙◌, subst, ⊎_elim, arith}
use Rattle.std.proofs.lemmas.List.{length-map}
use Rattle.rules.specs.declared.Term.{Term}
use Rattle.rules.specs.declared.Term.TheVariants.{Variable, Null}
use Rattle.rules.specs.declared.Atom.{Atom}
use Rattle.rules.specs.declared.rule.Rule.{Rule}
use Rattle.rules.specs.Logic.{In, Each, Formula, Implication, formula_of, terms_of}
use Rattle.rules.specs.Bounds.{body_of, flags, FlagsAre}
use Rattle.rules.specs.Matches.{Ground, Assignment, Stands, value, under, result}
use Rattle.rules.specs.Reliances.{Alternative, ShowsRestraint}
use Rattle.rules.specs.Rules.{meaning}
use Rattle.rules.proofs.Membership.{in_right, in_either}
use Rattle.matches.specs.Lists.{look, formulas, under_atom, Spares, Sizes}
use Rattle.matches.proofs.Basics.{in_map, from_map, in_terms, from_terms, under_same, map_same}
use Rattle.matches.proofs.Bounded.{Bounded, bounded, by_formula}
use Rattle.reliances.specs.declared.sheet.Kind.TheVariants.{Restraint}
use Rattle.reliances.specs.declared.sheet.Sheet.{Sheet}
use Rattle.reliances.specs.Unification.{Subst, through, rigid_both, part, wide, shift_var, other, moved, loose_count, before_of, later_of}
use Rattle.reliances.specs.Following.{Small, Node}
use Rattle.reliances.specs.Sheets.{first_list, second_list, later_facts, ShowsRestrained}
use Rattle.reliances.specs.RestraintSearch.{shifted, AreLoose, Stuck, Open, IsFound}
use Rattle.reliances.specs.Searching.{Deserted}
use Rattle.reliances.proofs.Slots.{look_ground, look_wide}
use Rattle.reliances.proofs.Nodes.{small_body, under_small}
use Rattle.reliances.proofs.Verified.{alternative_filled, result_facts}
use Rattle.reliances.proofs.RestraintNodes.{laid_before_lem, laid_extra_lem, shift_term_lem}
use Rattle.reliances.proofs.Restraint as restraint

-- an alternative is one as well by an assignment that gives the rule's variables the same
alternative_same : (r : Implication) → Bounded r → (h : Assignment) (S : List Formula) (j k : Assignment) → ((v : ℕ) → v < 12 → k v ≡ j v) → Alternative r h S j → Alternative r h S k
alternative_same r b h S j k e a = record {
  agrees = λ v u. e v (b.body (Variable v) u) ∙ a.agrees v u;
  present = λ x i. subst (λ z. In z S) (sym (same x i)) (a.present x i);
  spared = a.spared;
  given = a.given;
  absent = λ i. a.absent (subst (Stands (h a.spared)) (map_same (under k) (under j) r.head same) i);
}
  where
    same : (x : Formula) → In x r.head → under k x ≡ under j x
    same x i = under_same k j x (λ v l. e v (by_formula r.head b.head x i (Variable v) l))

-- the nulls of an alternative stand in the facts
stands_present : (r : Implication) (k : Assignment) (S : List Formula) → Each (λ a. In (under k a) S) r.head → (t : Term) → Stands t (map (under k) r.head) → Stands t S
stands_present r k S present t i =
    let p = from_terms t (map (under k) r.head) i in
    let q = from_map (under k) p.0 r.head p.1 in
    in_terms t p.0 S (subst (λ x. In x S) (sym q.2) (present q.0 q.1)) p.2

-- the null cannot be made the one that the early alternative spares
abbrev pub Refuted : Rule → Rule → List Bool → Subst → List Atom → ℕ → ℕ → Type 0
Refuted A B rigid σ old v r = Deserted Restraint A B rigid (moved r v σ) old

module _ (A B : Rule) (rigid : List Bool) (is : FlagsAre rigid (rigid_both (meaning A) (meaning B))) (σ : Subst) (old : List Atom) where
  abbrev NodeHere : Subst → List Atom → Type 0
  NodeHere τ rest = Node (meaning A).head (shifted (meaning B)) rigid τ old rest

  abbrev OpenHere : Type 0
  OpenHere = Open (meaning A) (meaning B) σ (formulas old)

  pub none_open : (rest : List Atom) → NodeHere σ rest → (OpenHere → ⊥) → Deserted Restraint A B rigid σ old
  none_open rest n shut w = shut (restraint.follow_open (meaning A) (meaning B) (bounded A) (bounded B) (flags rigid) is σ (formulas old) n.reached.old_from w)

  -- an alternative too early in which no null is loose rules the restraint out
  pub none_stuck : (rest : List Atom) → NodeHere σ rest → Stuck (meaning B) (flags rigid) (before_of (meaning B) σ) (look (part σ 12)) (later_of (meaning A) (meaning B) σ (formulas old)) → Deserted Restraint A B rigid σ old
  none_stuck rest n s w =
      let v = s.0 in
      let k = s.1 in
      let e = s.2 in
      let kept : look (part σ 12) v ≡ Null (12 + v) =
      restraint.reach_null (meaning A) (meaning B) (bounded A) (bounded B) (flags rigid) is σ (formulas old) (formulas rest) n.reached v e.given in
      let z = restraint.follow_refine (meaning A) (meaning B) (bounded A) (bounded B) (flags rigid) is σ (formulas old) n.reached.old_from w k v e.agrees e.present e.given
      (λ i. e.absent (subst (λ t. Stands t (map (under k) (meaning B).head)) (sym kept) i)) in
      s.3 z.0 (z.1, z.3) z.2

  -- where every atom is old, no witness follows
  pub none_new : (count : ℕ) → NodeHere σ [] → count ≡ length (shifted (meaning B)) → count ≤ length old → Deserted Restraint A B rigid σ old
  none_new count n e l =
      restraint.follow_some_new (meaning A) (meaning B) (bounded A) (bounded B) (flags rigid) is σ (formulas old) (λ b i. ⊎_elim (λ j. absurd j) (λ j. j) (n.left.all full b i))
    where
      full : length (formulas old) + 0 ≡ length (shifted (meaning B))
      full =
          let few = n.left.few in
          let p : length (formulas old) ≡ length old = length-map old formula_of in
          omega arith

  -- what the end of a way shows
  module _ (sa : Sizes (meaning A)) (sb : Sizes (meaning B)) (s : Sheet) (n : NodeHere σ []) (o : OpenHere) (none : (k : Assignment) → Alternative (meaning B) (look (part σ 12)) (later_of (meaning A) (meaning B) σ (formulas old)) k → ⊥) (f : IsFound A B rigid σ old s) where
    abbrev F : List Atom
    F = first_list s

    abbrev M : List Atom
    M = second_list s

    before_here : formulas F ≡ before_of (meaning B) σ
    before_here = ap formulas f.list ∙ laid_before_lem A B σ old

    later_here : later_facts (meaning B) s ≡ later_of (meaning A) (meaning B) σ (formulas old)
    later_here = λ i. result (meaning B) (look (f.second_rule i)) (before_here i) ++ (ap formulas f.more ∙ laid_extra_lem A B σ old) i

    other_here : (v : ℕ) → v < 12 → look s.alternative v ≡ other (meaning B) σ v
    other_here v l =
        f.other v l ∙ ap (value (through σ 12)) (shift_term_lem A B σ old rigid is (Variable v))
        ∙ sym (look_wide σ (shift_var (meaning B) v) (restraint.shift_below (meaning B) v l))

    shows : ShowsRestraint (meaning A) (meaning B) (before_of (meaning B) σ) (later_of (meaning A) (meaning B) σ (formulas old)) (look (part σ 0)) (look (part σ 12)) (look s.alternative)
    shows =
        let z = restraint.reach_shows (meaning A) (meaning B) (bounded A) (bounded B) (flags rigid) is sa sb σ (formulas old) n.reached o none in
        record {
          facts = z.facts;
          second = z.second;
          later = z.later;
          contains = z.contains;
          first = z.first;
          alternative = alternative_same (meaning B) (bounded B) (look (part σ 12)) _ (other (meaning B) σ) (look s.alternative) other_here z.alternative;
          none = z.none;
        }

    small_first : Each Small F
    small_first = subst (Each Small) (sym f.list) (under_small (look (part σ 12)) (body_of B.parts) (small_body B))

    small_second : Each Small M
    small_second x i =
        ⊎_elim (under_small (look (part σ 0)) (body_of A.parts) (small_body A) x) (under_small (look (wide σ)) old n.small_old x)
        (in_either x (map (under_atom (look (part σ 0))) (body_of A.parts)) (map (under_atom (look (wide σ))) old) (subst (In x) f.more i))

    all_shows : ShowsRestraint (meaning A) (meaning B) (formulas F) (later_facts (meaning B) s) (look s.first_rule) (look s.second_rule) (look s.alternative)
    all_shows =
        subst (λ (t : Type 0). t)
        (λ i. ShowsRestraint (meaning A) (meaning B) (sym before_here i) (sym later_here i) (look (sym f.first_rule i)) (look (sym f.second_rule i)) (look s.alternative)) shows

    pub found_shows : ShowsRestrained (meaning A) (meaning B) s
    found_shows = record {
      few = f.few;
      fewer = f.fewer;
      facts = λ x i. record { few = small_first x i; fact = all_shows.facts (formula_of x) (in_map formula_of x F i) };
      more = λ x i. record { few = small_second x i; fact = all_shows.later (formula_of x) (in_right (formula_of x) (result (meaning B) (look s.second_rule) (formulas F)) (formulas M) (in_map formula_of x M i)) };
      first = λ v u. subst (λ z. Ground (look z v)) (sym f.first_rule) (look_ground σ n.reached.ground 0 v);
      second = λ v u. subst (λ z. Ground (look z v)) (sym f.second_rule) (look_ground σ n.reached.ground 12 v);
      other =
          let H = later_facts (meaning B) s in
          alternative_filled (meaning B) (look s.second_rule) (formulas F) all_shows.facts (result (meaning A) (look s.first_rule) H)
          (result_facts (meaning A) (look s.first_rule) H all_shows.later (bounded A) sa all_shows.first) (look s.alternative)
          all_shows.second all_shows.alternative;
      shows = all_shows;
    }

  -- an alternative that comes too early
  module _ (h : List Term) (S : List Formula) (v : ℕ) (k : Assignment) (n : NodeHere σ []) (p : h ≡ part σ 12) (d : S ≡ later_of (meaning A) (meaning B) σ (formulas old))
      (early : Spares (meaning B) (look h) S v k) where
    abbrev T : List Formula
    T = map (under k) (meaning B).head

    -- its flexible nulls stand in slots
    null_slot : (r : ℕ) → Stands (Null r) T → In (Null r) σ
    null_slot r i =
        restraint.null_slot (meaning A) (meaning B) (bounded A) (bounded B) (flags rigid) is σ (formulas old) [] n.reached r
        (subst (Stands (Null r)) d (stands_present (meaning B) k S early.present (Null r) i))

    pub falls : (r : ℕ) → flags rigid r ≡ false → Stands (Null r) T → loose_count (flags rigid) (moved r v σ) < loose_count (flags rigid) σ
    falls r e i = restraint.count_falls (meaning A) (meaning B) (bounded A) (bounded B) (flags rigid) is σ r v e early.given (null_slot r i)

    pub moved_node : (r : ℕ) → flags rigid r ≡ false → NodeHere (moved r v σ) []
    moved_node r e = record {
      reached = restraint.reach_moved (meaning A) (meaning B) (bounded A) (bounded B) (flags rigid) is σ (formulas old) [] r v e early.given n.reached;
      left = n.left;
      small_old = n.small_old;
      small_rest = n.small_rest;
    }

    -- once each loose null was tried
    pub all_refuted : (rs : List ℕ) → AreLoose (flags rigid) (before_of (meaning B) σ) (terms_of T) rs → Each (Refuted A B rigid σ old v) rs → Deserted Restraint A B rigid σ old
    all_refuted rs loose tried w =
        let z =
        restraint.follow_refine (meaning A) (meaning B) (bounded A) (bounded B) (flags rigid) is σ (formulas old) n.reached.old_from w k v
        (λ u x. early.agrees u x ∙ ap (λ q. look q u) p) (λ a i. subst (In (under k a)) d (early.present a i)) early.given absent
        in
        tried z.0 (loose.complete z.0 (z.1, z.3) z.2) z.4
      where
        absent : Stands (Null (12 + v)) T → ⊥
        absent i =
            early.absent (subst (λ t. Stands t T)
            (sym (ap (λ q. look q v) p ∙ restraint.reach_null (meaning A) (meaning B) (bounded A) (bounded B) (flags rigid) is σ (formulas old) [] n.reached v early.given)) i)
