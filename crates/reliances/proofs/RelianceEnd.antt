-- What the end of a way of the search for a positive reliance shows, and where no witness can follow.
-- Assumes nothing.
use Rattle.std.proofs.Common.{◌≡◌, ℕ, ◌+◌, ◌≤◌, Bool, List, [], ◌++◌, map, length, take, sym, subst, ⊎_elim, arith}
use Rattle.std.proofs.lemmas.List.{length-map, map-append}
use Rattle.rules.specs.declared.Atom.{Atom}
use Rattle.rules.specs.declared.rule.Rule.{Rule}
use Rattle.rules.specs.Logic.{In, Each, Formula, formula_of}
use Rattle.rules.specs.Bounds.{body_of, flags, FlagsAre}
use Rattle.rules.specs.Matches.{Ground, Satisfied, result}
use Rattle.rules.specs.Reliances.{ShowsReliance}
use Rattle.rules.specs.Rules.{meaning}
use Rattle.rules.proofs.Membership.{in_either}
use Rattle.matches.specs.Lists.{look, formulas, under_atom, Sizes}
use Rattle.matches.proofs.Basics.{in_map}
use Rattle.matches.proofs.Bounded.{bounded}
use Rattle.reliances.specs.declared.sheet.Sheet.{Sheet}
use Rattle.reliances.specs.Unification.{Subst, rigid?, part, candidate}
use Rattle.reliances.specs.Following.{Small, Node}
use Rattle.reliances.specs.Sheets.{ShowsPositive}
use Rattle.reliances.specs.PositiveSearch.{Followed, Free, Open, IsFound, laid_facts}
use Rattle.reliances.proofs.Slots.{look_ground}
use Rattle.reliances.proofs.Nodes.{small_body, under_small}
use Rattle.reliances.proofs.RelianceNodes.{listed}
use Rattle.reliances.proofs.Positive as positive

module _ (A B : Rule) (rigid : List Bool) (is : FlagsAre rigid (rigid? (meaning A))) (σ : Subst) where
  abbrev FollowedHere : Subst → List Formula → Type 0
  FollowedHere = Followed (meaning A) (meaning B) (flags rigid)

  abbrev NodeHere : Subst → List Atom → List Atom → Type 0
  NodeHere = Node (meaning A).head (meaning B).body rigid

  -- where every atom is old, no witness follows
  pub none_new : (old : List Atom) (count : ℕ) → NodeHere σ old [] → count ≡ length (meaning B).body → count ≤ length old → FollowedHere σ (formulas old) → ⊥
  none_new old count n e l w =
      w.shows.new (λ b i. w.actual b (⊎_elim (λ j. absurd j) (λ j. j) (n.left.all full b i)))
    where
      full : length (formulas old) + 0 ≡ length (meaning B).body
      full =
          let few = n.left.few in
          let p : length (formulas old) ≡ length old = length-map old formula_of in
          omega arith

  -- a node that is shut for good
  pub none_open : (old rest : List Atom) → NodeHere σ old rest → (Open (meaning A) (meaning B) (flags rigid) σ (formulas old) → ⊥) → FollowedHere σ (formulas old) → ⊥
  none_open old rest n shut w = shut (positive.follow_open (meaning A) (meaning B) (bounded A) (bounded B) (flags rigid) is σ (formulas old) n.reached.old_from w)

  -- a node where A cannot be applied, or B's match is one before
  pub none_free : (old rest : List Atom) → NodeHere σ old rest → (Free (meaning A) (meaning B) (flags rigid) σ (candidate (meaning A) σ (formulas old)) → ⊥) → FollowedHere σ (formulas old) → ⊥
  none_free old rest n shut = none_open old rest n (λ o. shut o.free)

  -- a node where B's match is satisfied once A is applied
  pub none_unsatisfied : (old rest : List Atom) → NodeHere σ old rest
      → Satisfied (meaning B) (look (part σ 12)) (result (meaning A) (look (part σ 0)) (candidate (meaning A) σ (formulas (old ++ rest)))) → FollowedHere σ (formulas old) → ⊥
  none_unsatisfied old rest n s w =
      positive.follow_unsatisfied (meaning A) (meaning B) (bounded A) (bounded B) (flags rigid) is σ (formulas old) (formulas (old ++ rest))
      (subst (Each (λ o. In o (meaning B).body)) (sym (map-append formula_of old rest)) (λ x i. ⊎_elim (n.reached.old_from x) (n.reached.rest_from x) (in_either x (formulas old) (formulas rest) i)))
      w s

  -- what the end of a way shows
  module _ (sa : Sizes (meaning A)) (sb : Sizes (meaning B)) (old : List Atom) (s : Sheet) (n : NodeHere σ old []) (o : Open (meaning A) (meaning B) (flags rigid) σ (formulas old)) (f : IsFound σ (laid_facts A σ old) s) where
    abbrev F : List Atom
    F = take s.first_len s.first

    here : formulas F ≡ candidate (meaning A) σ (formulas old)
    here = listed A B σ old F f.list

    shows : ShowsReliance (meaning A) (meaning B) (candidate (meaning A) σ (formulas old)) (look (part σ 0)) (look (part σ 12))
    shows = positive.reach_shows (meaning A) (meaning B) (bounded A) (bounded B) (flags rigid) is sa sb σ (formulas old) n.reached o

    small_all : Each Small F
    small_all x i =
        ⊎_elim (under_small (look (part σ 0)) (body_of A.parts) (small_body A) x) (under_small (look (part σ 12)) old n.small_old x)
        (in_either x (map (under_atom (look (part σ 0))) (body_of A.parts)) (map (under_atom (look (part σ 12))) old) (subst (In x) f.list i))

    pub found_shows : ShowsPositive (meaning A) (meaning B) s
    found_shows = record {
      few = f.few;
      empty = f.empty;
      facts = λ x i. record { few = small_all x i; fact = shows.facts (formula_of x) (subst (In (formula_of x)) here (in_map formula_of x F i)) };
      first = λ v u. subst (λ z. Ground (look z v)) (sym f.first_rule) (look_ground σ n.reached.ground 0 v);
      second = λ v u. subst (λ z. Ground (look z v)) (sym f.second_rule) (look_ground σ n.reached.ground 12 v);
      shows = subst (λ (t : Type 0). t) (λ i. ShowsReliance (meaning A) (meaning B) (sym here i) (look (sym f.first_rule i)) (look (sym f.second_rule i))) shows;
    }
