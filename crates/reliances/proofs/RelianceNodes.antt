-- What the code of the search for a positive reliance finds at a node, in terms of the node.
-- Assumes nothing.
use Rattle.std.proofs.Common.{◌≡◌, ◌+◌, Bool, not, ◌&&◌, List, ◌++◌, map, length, take, Decides, sym, ap, ◌∙◌, subst, arith}
use Rattle.std.proofs.lemmas.Bool.Decides.{Decides-like, Decides-not, Decides-and}
use Rattle.std.proofs.lemmas.List.{map-append, length-map, length-append, append_assoc}
use Rattle.std.proofs.Math.Seq.{take-append_seam}
use Rattle.rules.specs.declared.Term.{Term}
use Rattle.rules.specs.declared.Atom.{Atom}
use Rattle.rules.specs.declared.rule.Rule.{Rule}
use Rattle.rules.specs.Logic.{Formula, formula_of}
use Rattle.rules.specs.Bounds.{body_of, head_of, flags}
use Rattle.rules.specs.Matches.{Match, Satisfied, result}
use Rattle.rules.specs.Rules.{meaning}
use Rattle.matches.specs.Lists.{look, formulas, under_atom}
use Rattle.reliances.specs.Unification.{Subst, part, candidate, HasRigid}
use Rattle.reliances.specs.PositiveSearch.{Free, laid_facts}
use Rattle.reliances.proofs.Laying.{all_under}

module _ (A B : Rule) (σ : Subst) (old : List Atom) where
  abbrev C : List Formula
  C = candidate (meaning A) σ (formulas old)

  pub listed : (facts : List Atom) → facts ≡ laid_facts A σ old → formulas facts ≡ C
  listed facts e =
      ap formulas e ∙ map-append formula_of (map (under_atom (look (part σ 0))) (body_of A.parts)) (map (under_atom (look (part σ 12))) old)
      ∙ (λ i. all_under (look (part σ 0)) (body_of A.parts) i ++ all_under (look (part σ 12)) old i)

  pub resulted : (list : List Atom) → list ≡ laid_facts A σ old ++ map (under_atom (look (part σ 0))) (head_of A.parts)
      → formulas list ≡ result (meaning A) (look (part σ 0)) C
  resulted list e =
      ap formulas e ∙ map-append formula_of (laid_facts A σ old) (map (under_atom (look (part σ 0))) (head_of A.parts))
      ∙ (λ i. listed (laid_facts A σ old) (λ j. laid_facts A σ old) i ++ all_under (look (part σ 0)) (head_of A.parts) i)

  -- the parts of a list that was laid for a node
  module _ (body all rest list : List Atom) (p : body ≡ body_of A.parts) (q : all ≡ old ++ rest) where
    long : (xs : List Atom) → length (laid_facts A σ xs) ≡ length body + length xs
    long xs =
        let e = ap length p in
        let f = length-map (body_of A.parts) (under_atom (look (part σ 0))) in
        let g = length-map xs (under_atom (look (part σ 12))) in
        length-append (map (under_atom (look (part σ 0))) (body_of A.parts)) (map (under_atom (look (part σ 12))) xs) ∙ omega (arith, e, f, g)

    pub facts_are : (after : List Atom) → list ≡ laid_facts A σ all ++ after → take (length body + length all) list ≡ laid_facts A σ all
    facts_are after e = (λ i. take (sym (long all) i) (e i)) ∙ take-append_seam (laid_facts A σ all) after

    pub kept_are : list ≡ laid_facts A σ all → take (length body + length old) list ≡ laid_facts A σ old
    kept_are e =
        (λ i. take (sym (long old) i) ((e ∙ ap (laid_facts A σ) q ∙ longer) i))
        ∙ take-append_seam (laid_facts A σ old) (map (under_atom (look (part σ 12))) rest)
      where
        longer : laid_facts A σ (old ++ rest) ≡ laid_facts A σ old ++ map (under_atom (look (part σ 12))) rest
        longer =
            ap (λ z. map (under_atom (look (part σ 0))) (body_of A.parts) ++ z) (map-append (under_atom (look (part σ 12))) old rest)
            ∙ sym (append_assoc (map (under_atom (look (part σ 0))) (body_of A.parts)) (map (under_atom (look (part σ 12))) old) (map (under_atom (look (part σ 12))) rest))

-- three tests that say no decide whether the facts are free
module _ (A B : Rule) (rigid : List Bool) (σ : Subst) (h k : List Term) (q : h ≡ part σ 0) (p : k ≡ part σ 12) (F : List Formula) where
  pub free_decided : (x y z : Bool) → Decides x (HasRigid (flags rigid) F) → Decides y (Satisfied (meaning A) (look h) F) → Decides z (Match (meaning B) (look k) F)
      → Decides (not x && (not y && not z)) (Free (meaning A) (meaning B) (flags rigid) σ F)
  free_decided x y z d e f =
      Decides-like (not x && (not y && not z))
      (λ t. record {
        spare = λ r u i. t.0 (r, u, i);
        first = λ s. t.1.0 (subst (λ l. Satisfied (meaning A) (look l) F) (sym q) s);
        new = λ s. t.1.1 (subst (λ l. Match (meaning B) (look l) F) (sym p) s);
      })
      (λ o. (
        λ w. o.spare w.0 w.1 w.2,
        (λ s. o.first (subst (λ l. Satisfied (meaning A) (look l) F) q s), λ s. o.new (subst (λ l. Match (meaning B) (look l) F) p s)),
      ))
      (Decides-and (not x) _ (Decides-not x d) (Decides-and (not y) _ (Decides-not y e) (Decides-not z f)))
