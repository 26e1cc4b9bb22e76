-- What is known at a node of the search for a positive reliance of B on A (below the public contracts).
-- A node has a substitution σ, the atoms of B's body that were left old, and those that remain.
use Rattle.std.specs.Prelude.{◌≡◌, ℕ, ◌≤◌, Bool, true, List, ◌++◌, map, take}
use Rattle.rules.specs.declared.Term.TheVariants.{Null}
use Rattle.rules.specs.declared.Atom.{Atom}
use Rattle.rules.specs.declared.rule.Rule.{Rule}
use Rattle.rules.specs.Bounds.{body_of}
use Rattle.rules.specs.Logic.{In, Each, Formula, Implication}
use Rattle.rules.specs.Matches.{Stands, Assignment, under, Match, Satisfied, result}
use Rattle.rules.specs.Reliances.{ShowsReliance}
use Rattle.matches.specs.Lists.{look, under_atom}
use Rattle.reliances.specs.declared.sheet.Sheet.{Sheet}
use Rattle.reliances.specs.Unification.{Subst, part, candidate}
use Rattle.reliances.specs.Following.{Good, both}

-- some facts and matches that show the reliance follow the search to the node
pub record Followed (A B : Implication) (rigid : ℕ → Bool) (σ : Subst) (old : List Formula) : Type 0 where
  pub facts : List Formula
  pub first : Assignment
  pub second : Assignment
  pub shows : ShowsReliance A B facts first second
  pub good : Good (both first second) rigid σ
  pub actual : Each (λ o. In (under second o) facts) old

-- A can be applied on the facts F, and B's match is none on them
pub record Free (A B : Implication) (rigid : ℕ → Bool) (σ : Subst) (F : List Formula) : Type 0 where
  pub spare : (r : ℕ) → rigid r ≡ true → Stands (Null r) F → ⊥
  pub first : Satisfied A (look (part σ 0)) F → ⊥
  pub new : Match B (look (part σ 12)) F → ⊥

-- nothing at the node rules the reliance out for good
pub record Open (A B : Implication) (rigid : ℕ → Bool) (σ : Subst) (old : List Formula) : Type 0 where
  pub free : Free A B rigid σ (candidate A σ old)
  pub second : Satisfied B (look (part σ 12)) (result A (look (part σ 0)) (candidate A σ old)) → ⊥

-- the facts of a node as atoms
abbrev pub laid_facts : Rule → Subst → List Atom → List Atom
laid_facts A σ old = map (under_atom (look (part σ 0))) (body_of A.parts) ++ map (under_atom (look (part σ 12))) old

-- the sheet that a node ends in
pub record IsFound (σ : Subst) (facts : List Atom) (s : Sheet) : Type 0 where
  pub few : s.first_len ≤ 11
  pub empty : s.second_len ≡ 0
  pub first_rule : s.first_rule ≡ part σ 0
  pub second_rule : s.second_rule ≡ part σ 12
  pub list : take s.first_len s.first ≡ facts
